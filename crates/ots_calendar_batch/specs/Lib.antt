pub mod Batch
pub mod Reading
pub mod Round
pub mod Trees
