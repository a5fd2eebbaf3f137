pub mod MadeWords
pub mod MadeModule
pub mod Laws
