pub mod Fronts
pub mod Holds
pub mod LongChains
pub mod NameLists
