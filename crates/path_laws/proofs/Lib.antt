pub mod Declared
pub mod Lengths
pub mod Outputs
