mod Kept
mod Turns
mod Sheets
mod Counts
mod OneTotal
mod Files
