pub mod Conversation
pub mod Outcome
