pub mod Total
pub mod Sheet
pub mod Asks
pub mod inner
