pub mod Carrying
pub mod Ended
pub mod Finished
pub mod OneInput
pub mod Outcome
pub mod Reading
pub mod Running
pub mod Turns
