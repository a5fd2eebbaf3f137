pub mod Balance
pub mod Gains
pub mod Rooms
pub mod Steps
pub mod Searches
