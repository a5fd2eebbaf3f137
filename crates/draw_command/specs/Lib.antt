pub mod Drawn
pub mod Files
