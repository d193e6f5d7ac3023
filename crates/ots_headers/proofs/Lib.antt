pub mod HeaderBytes
pub mod TableBytes
