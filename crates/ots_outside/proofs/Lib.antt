pub mod Conversations
pub mod Inputs
pub mod KeptRoom
pub mod Links
pub mod Names
pub mod Buffers
