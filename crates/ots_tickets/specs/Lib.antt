pub mod Tickets
pub mod Calls
pub mod Search
pub mod Slots
pub mod Ready
pub mod Numbers
