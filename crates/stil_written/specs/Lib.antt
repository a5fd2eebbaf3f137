pub mod Laws
pub mod Readings
pub mod Unbounded
pub mod Written
