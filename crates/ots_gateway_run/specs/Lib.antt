pub mod Accepted
pub mod Rounds
pub mod Serving
pub mod Going
pub mod Run
pub mod Answered
