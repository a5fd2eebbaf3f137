pub mod Indexes
pub mod Tables
pub mod FirstNames
