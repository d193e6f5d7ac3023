pub mod Answered
pub mod Closing
pub mod Connection
pub mod Holds
pub mod Putting
pub mod Replies
pub mod Sending
pub mod Stamping
