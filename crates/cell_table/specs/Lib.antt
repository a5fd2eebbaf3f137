pub mod Cells
pub mod Table
pub mod Ascending
pub mod Entries
pub mod Kept
