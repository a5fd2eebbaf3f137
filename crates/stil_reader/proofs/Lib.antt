pub mod Ahead
pub mod Heads
pub mod Only
pub mod Said
pub mod SoFar
pub mod Steps
pub mod Whole
