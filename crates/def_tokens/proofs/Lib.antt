pub mod DefCuts
pub mod DefPieces
pub mod DefSplitLaw
pub mod DefUnique
pub mod DigitValues
pub mod Taken
