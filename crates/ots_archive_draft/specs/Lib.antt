pub mod Files
pub mod Drawing
pub mod Writing
pub mod Drafts
