mod Addressed
mod Blocks
mod Olds
mod Digesting
pub mod OneInput
