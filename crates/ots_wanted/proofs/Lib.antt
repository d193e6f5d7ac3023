mod Drafts
pub mod Taking
pub mod Fewer
pub mod OneWanted
mod Asked
pub mod Few
