mod Opened
pub mod Running
pub mod Inputs
pub mod Shelves
mod OneBook
pub mod OneInput
