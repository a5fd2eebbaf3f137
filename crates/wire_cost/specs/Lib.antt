pub mod Blocks
pub mod Filled
pub mod Lengths
pub mod Rows
