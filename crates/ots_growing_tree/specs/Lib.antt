pub mod Runs
pub mod TreeParts
