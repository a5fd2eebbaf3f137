pub mod Asked
pub mod CellNames
pub mod Heads
