pub mod Answering
pub mod Forgetting
pub mod Fronts
pub mod Held
pub mod Stating
pub mod Telling
pub mod Walking
