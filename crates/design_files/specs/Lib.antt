pub mod Files
pub mod Faults
pub mod Stages
pub mod Laws
