pub mod OneNumber
pub mod ReadBack
pub mod Fed
mod Ended
pub mod Written
pub mod Settled
pub mod After
pub mod Parts
