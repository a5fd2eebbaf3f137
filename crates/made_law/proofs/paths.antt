pub mod Joins
pub mod Sources
pub mod Leading
pub mod Bits
pub mod Netlists
