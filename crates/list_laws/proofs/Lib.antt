pub mod LeastLines
pub mod Leasts
pub mod Members
pub mod RowsMore
pub mod Totals
