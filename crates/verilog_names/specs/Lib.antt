pub mod Values
pub mod Declarations
pub mod NameTables
pub mod NameHashes
pub mod NameSets
