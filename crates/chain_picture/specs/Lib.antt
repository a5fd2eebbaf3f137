pub mod Pictures
pub mod Sizes
pub mod Xml
