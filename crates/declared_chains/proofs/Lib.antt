pub mod Chains
pub mod FaultKinds
pub mod Faults
pub mod PatternKinds
pub mod WholeFaults
