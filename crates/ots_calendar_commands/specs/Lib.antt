pub mod Examples
pub mod Meaning
pub mod Run
