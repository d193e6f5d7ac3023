pub mod Taken
pub mod Arriving
pub mod Replied
pub mod Request
pub mod Due
pub mod Answering
pub mod Whole
pub mod Lawful
