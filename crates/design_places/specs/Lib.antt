pub mod Ends
pub mod Layouts
pub mod Lines
pub mod NetPins
pub mod PinPlaces
