pub mod Honest
pub mod Offering
pub mod Reading
