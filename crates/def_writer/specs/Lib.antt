pub mod PlanChains
pub mod DefTexts
pub mod Seen
pub mod Placing
pub mod Moved
