pub mod Paths
pub mod Parities
pub mod Faults
pub mod Drivers
pub mod Named
