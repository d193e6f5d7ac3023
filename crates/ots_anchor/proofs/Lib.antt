pub mod Marks
pub mod Standings
mod Looks
pub mod Paths
