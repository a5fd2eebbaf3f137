pub mod HeadCuts
pub mod OwnHeads
pub mod Orders
pub mod Entries
pub mod Names
pub mod Passed
pub mod Sets
pub mod OneSet
