pub mod Totals
pub mod Orders
pub mod Bounds
pub mod Growths
pub mod Leasts
pub mod Routes
pub mod Heights
pub mod TreeBounds
