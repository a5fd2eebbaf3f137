pub mod SameCells
pub mod SamePaths
pub mod PlannedPaths
pub mod NewHeads
pub mod Meanings
pub mod WrittenLaw
