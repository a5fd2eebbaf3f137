pub mod Exits
pub mod Homes
pub mod Judging
pub mod Moved
pub mod Places
pub mod Retargeting
pub mod Sides
