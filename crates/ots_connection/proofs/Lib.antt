mod Answering
mod Closes
mod Held
pub mod Later
mod Receipts
mod Sent
mod Short
mod Told
mod Withdrawn
