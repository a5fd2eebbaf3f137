pub mod CountedPlaces
pub mod FaultOrder
pub mod FirstFaults
pub mod LineLemmas
pub mod TruthValues
