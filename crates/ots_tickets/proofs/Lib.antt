pub mod Gaps
pub mod Going
pub mod Places
