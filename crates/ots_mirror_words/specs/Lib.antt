pub mod Lines
pub mod Refusal
pub mod Status
pub mod Words
