pub mod NewPaths
pub mod Numbered
pub mod Owners
pub mod Laws
