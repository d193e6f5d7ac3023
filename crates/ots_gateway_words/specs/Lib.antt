pub mod Command
pub mod Lines
pub mod Printed
pub mod Refusal
pub mod Status
pub mod Words
