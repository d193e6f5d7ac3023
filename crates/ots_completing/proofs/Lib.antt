mod Asked
mod AskedLines
pub mod Concluded
mod Example
pub mod OneAnswer
