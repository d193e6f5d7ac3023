pub mod Asking
pub mod Complete
pub mod Upgrade
