pub mod OneLog
pub mod FailFaults
pub mod PassedPairs
pub mod ReadPairs
