pub mod Listed
pub mod OneCounts
pub mod Tallies
