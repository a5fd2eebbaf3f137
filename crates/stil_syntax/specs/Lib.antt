pub mod Digits
pub mod Grammar
pub mod Laws
pub mod Names
pub mod Shapes
