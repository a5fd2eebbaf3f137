pub mod MadeAsked
pub mod MadeBlocks
pub mod Laws
