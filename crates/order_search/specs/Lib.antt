pub mod Steps
pub mod Runs
pub mod Sums
pub mod Aims
pub mod Searches
pub mod Nearest
pub mod Trials
