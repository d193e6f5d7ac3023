pub mod Checked
pub mod Following
pub mod Messages
pub mod Progress
pub mod Rows
pub mod Stage
pub mod Source
