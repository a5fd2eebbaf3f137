pub mod Constants
pub mod Denoted
pub mod LastBits
pub mod Numbering
