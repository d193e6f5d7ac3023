pub mod RunRoots
pub mod Levels
pub mod Closed
