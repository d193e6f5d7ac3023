pub mod Conversing
pub mod KnownLaws
pub mod OneOutcome
pub mod Questions
