pub mod ByteKinds
mod Characters
pub mod StilCuts
pub mod StilPieces
pub mod StilSplitLaw
pub mod StilUnique
pub mod Taken
