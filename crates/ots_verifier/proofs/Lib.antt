pub mod Gathered
pub mod HeaderPrefix
pub mod InRows
pub mod OneToken
pub mod OnePiece
pub mod Valued
pub mod Outcomes
pub mod Sourced
