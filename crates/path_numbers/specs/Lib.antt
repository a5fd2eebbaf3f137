pub mod Extras
pub mod Numbers
