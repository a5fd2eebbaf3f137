pub mod Ends
pub mod Faults
pub mod Heads
pub mod TopWords
pub mod Twice
pub mod Unsupported
