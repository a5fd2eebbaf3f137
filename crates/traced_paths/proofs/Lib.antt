pub mod FirstMet
pub mod LacksLines
pub mod OnceNames
pub mod PathsFaults
pub mod PortNames
pub mod SharedLines
pub mod Shares
pub mod Wanted
