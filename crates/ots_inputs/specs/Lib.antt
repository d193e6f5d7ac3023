pub mod File
pub mod Input
pub mod Kept
pub mod Lines
pub mod LinesRead
pub mod Opened
pub mod Under
