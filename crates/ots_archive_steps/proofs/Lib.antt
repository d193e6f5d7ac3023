pub mod Ending
pub mod Turns
pub mod Listed
pub mod Lists
pub mod Items
