pub mod Image
pub mod Journal
pub mod Opening
pub mod Stored
pub mod Version1
pub mod Within
