pub mod Fits
pub mod ForOnes
pub mod NetFaults
pub mod Options
pub mod PinsNoted
pub mod PlaceFaults
