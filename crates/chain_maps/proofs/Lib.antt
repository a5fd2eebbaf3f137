pub mod Along
pub mod KeepsBits
pub mod SameRanks
