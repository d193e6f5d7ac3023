pub mod LastPart
pub mod Seen
pub mod Lines
pub mod Taken
pub mod Refused
