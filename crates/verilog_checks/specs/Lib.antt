pub mod ConstantSizes
pub mod Faults
pub mod Checks
pub mod CheckLaws
pub mod Steps
pub mod Seen
