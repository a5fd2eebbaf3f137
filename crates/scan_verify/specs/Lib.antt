pub mod Sameness
pub mod Patterns
pub mod Sets
pub mod Reruns
pub mod Staying
