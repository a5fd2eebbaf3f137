pub mod MadeNetlist
pub mod MadePaths
pub mod Laws
