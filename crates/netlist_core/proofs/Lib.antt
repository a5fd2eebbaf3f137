pub mod Chains
pub mod Sides
pub mod Roots
mod Distinct
pub mod Noted
