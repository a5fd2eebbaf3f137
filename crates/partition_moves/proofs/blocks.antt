pub mod Filling
pub mod Grown
pub mod Ways
