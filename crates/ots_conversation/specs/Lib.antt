pub mod Conversation
pub mod Exchanged
