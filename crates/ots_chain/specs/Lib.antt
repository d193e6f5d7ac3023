pub mod Target
pub mod Chain
pub mod Pins
pub mod PinLines
pub mod Reversed
