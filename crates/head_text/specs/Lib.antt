pub mod Laws
pub mod Mixes
pub mod Ready
pub mod Written
