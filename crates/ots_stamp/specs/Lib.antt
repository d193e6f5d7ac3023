pub mod Batch
pub mod Stamped
pub mod Stamping
pub mod Ways
