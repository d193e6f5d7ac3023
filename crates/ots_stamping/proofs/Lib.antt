mod Acts
pub mod Concluded
mod Counting
mod Drawn
mod Example
mod Hashed
pub mod OneAnswer
pub mod OneStamp
mod Submitted
