pub mod Netlists
pub mod Joining
pub mod Forests
pub mod Kept
pub mod Places
