pub mod MadeHead
pub mod MadePatterns
pub mod Laws
