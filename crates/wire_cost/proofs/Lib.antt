pub mod Walks
pub mod FirstLinks
pub mod Plans
pub mod Places
pub mod Slacks
pub mod Small
