pub mod Answered
pub mod Asking
pub mod Complete
pub mod Hashing
pub mod Stamp
