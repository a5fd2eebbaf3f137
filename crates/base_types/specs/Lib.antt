pub mod Faults
pub mod FirstFault
pub mod Lines
pub mod Names
pub mod Kept
