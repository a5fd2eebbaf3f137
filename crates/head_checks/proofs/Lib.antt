pub mod Leasts
pub mod Firsts
pub mod Sums
pub mod Named
