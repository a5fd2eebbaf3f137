pub mod Accepted
mod Answered
mod Apart
mod Examples
mod Placed
mod Plain
pub mod Refusals
mod Sorted
pub mod Stated
mod Tables
