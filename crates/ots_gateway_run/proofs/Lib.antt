pub mod Accepts
pub mod GivesBack
pub mod Counting
pub mod Gone
pub mod Stepping
pub mod Running
pub mod Answered
