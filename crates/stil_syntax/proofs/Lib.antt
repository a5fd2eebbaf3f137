pub mod Labelled
mod Lawful
mod NameTexts
pub mod Stretches
