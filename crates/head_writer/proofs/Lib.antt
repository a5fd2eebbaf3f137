pub mod CellNames
pub mod EditPlaces
pub mod Firsts
