pub mod Confirmed
pub mod Walked
