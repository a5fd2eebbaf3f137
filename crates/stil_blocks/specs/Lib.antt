pub mod Callees
pub mod Chains
pub mod Statements
