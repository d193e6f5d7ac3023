pub mod Words
pub mod Orders
pub mod Lines
pub mod OneSheet
