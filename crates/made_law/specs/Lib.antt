pub mod Laws
pub mod Designs
pub mod Paths
pub mod Checks
pub mod Verilog
pub mod Files
pub mod Patterns
