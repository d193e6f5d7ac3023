pub mod Stays
pub mod Commands
