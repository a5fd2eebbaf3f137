pub mod Erasure
pub mod Free
pub mod Direct
pub mod Uses
pub mod Edits
pub mod Edited
pub mod EditKeys
