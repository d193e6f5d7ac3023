pub mod OneAnswer
mod Rewritten
