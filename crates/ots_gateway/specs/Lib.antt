pub mod Taking
pub mod Ways
pub mod Round
pub mod Arrived
pub mod Answer
