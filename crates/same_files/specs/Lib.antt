pub mod Meaning
pub mod Cells
pub mod Sets
pub mod Same
