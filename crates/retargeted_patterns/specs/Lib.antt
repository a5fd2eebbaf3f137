pub mod Figures
pub mod Progress
pub mod Texts
