pub mod Built
pub mod Forms
pub mod Zipped
