pub mod Cells
pub mod NewChains
pub mod Noted
pub mod Anew
pub mod Fits
