pub mod Info
pub mod Merged
pub mod Rewritten
