pub mod Asking
pub mod Group
pub mod Honest
pub mod Printed
pub mod Round
pub mod Rounds
pub mod Run
