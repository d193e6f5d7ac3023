pub mod Numbers
pub mod Compared
pub mod Heights
pub mod OneCheck
pub mod PinText
