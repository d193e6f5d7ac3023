pub mod Drawn
pub mod Slots
pub mod Time
