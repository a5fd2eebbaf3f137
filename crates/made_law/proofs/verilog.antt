pub mod Laying
pub mod Texts
pub mod Modules
pub mod Placing
pub mod Scalars
pub mod Declared
pub mod Denoting
