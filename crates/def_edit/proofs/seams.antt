pub mod SeamForm
pub mod Reached
pub mod Words
