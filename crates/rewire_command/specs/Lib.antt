pub mod Rewiring
pub mod Faults
pub mod Names
