pub mod Chains
mod Inputs
pub mod OneAnswer
pub mod Sampled
pub mod Short
pub mod Yes
