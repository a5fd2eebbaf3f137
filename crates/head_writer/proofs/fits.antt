pub mod Anew
pub mod CellLists
pub mod Fits
pub mod Kept
pub mod NameTexts
pub mod PathNames
pub mod ReadBits
