pub mod Goals
pub mod Planned
pub mod Reordered
pub mod PatternPlans
