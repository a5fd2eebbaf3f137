pub mod ByWords
pub mod Changes
pub mod Fields
pub mod Laws
