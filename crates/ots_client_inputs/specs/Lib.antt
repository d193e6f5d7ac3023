pub mod Headers
pub mod Inputs
pub mod List
pub mod Pins
pub mod Proof
pub mod Target
