pub mod Judged
pub mod Least
pub mod OneVerdict
pub mod PathValues
pub mod Messages
