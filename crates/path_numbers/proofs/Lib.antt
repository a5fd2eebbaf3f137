pub mod ExtraNames
pub mod PathNumbers
