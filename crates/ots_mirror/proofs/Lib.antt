pub mod Asked
pub mod Empty
pub mod Ending
pub mod Grouping
pub mod Honestly
pub mod Making
pub mod Running
