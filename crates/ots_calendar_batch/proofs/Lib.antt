mod Closing
mod Gathering
mod Putting
mod Rounding
mod Taking
mod TreeLines
mod Within
pub mod OneRound
