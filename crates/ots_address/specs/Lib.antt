pub mod Address
pub mod AddressList
pub mod OneAddress
