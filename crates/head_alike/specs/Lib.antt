pub mod Cells
pub mod Chains
pub mod Erased
pub mod Heads
pub mod Laws
pub mod Steps
pub mod Trees
