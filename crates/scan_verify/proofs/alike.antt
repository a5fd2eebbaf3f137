pub mod Headings
pub mod Cutting
pub mod NameFronts
pub mod Passing
