pub mod Sums
pub mod FaultKinds
pub mod Faults
