pub mod Names
pub mod Counting
pub mod Making
pub mod Taking
pub mod Takes
