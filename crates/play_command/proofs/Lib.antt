pub mod Lengths
pub mod Played
pub mod Sayings
pub mod Statements
