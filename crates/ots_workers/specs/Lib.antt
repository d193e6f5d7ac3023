pub mod Over
pub mod Returned
pub mod Turns
