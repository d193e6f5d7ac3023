pub mod Records
pub mod Rows
pub mod Told
pub mod Rule
pub mod Steps
pub mod Seats
