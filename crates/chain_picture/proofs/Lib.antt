pub mod Grouped
pub mod Says
pub mod Written
