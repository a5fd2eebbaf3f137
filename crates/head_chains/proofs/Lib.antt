pub mod ByBlocks
pub mod Firsts
