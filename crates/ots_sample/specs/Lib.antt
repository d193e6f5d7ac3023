pub mod Sample
pub mod Tokens
