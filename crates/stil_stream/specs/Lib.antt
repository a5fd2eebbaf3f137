pub mod Holding
pub mod Streams
pub mod Walks
