pub mod Answer
pub mod Asking
pub mod Ran
pub mod ReadsBack
pub mod RunsFrom
pub mod Taken
