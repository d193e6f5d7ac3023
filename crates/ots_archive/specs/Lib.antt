pub mod Run
pub mod Stays
