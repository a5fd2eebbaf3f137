pub mod CellPins
pub mod Elements
pub mod Faults
pub mod FirstOf
pub mod Firsts
pub mod Judging
pub mod Laws
pub mod Seen
