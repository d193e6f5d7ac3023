pub mod Bytes
pub mod Came
pub mod LinesCame
pub mod Lining
pub mod Meant
pub mod OneFile
pub mod Opened
