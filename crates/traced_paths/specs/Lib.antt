pub mod Asked
pub mod Bits
pub mod Steps
pub mod Traced
