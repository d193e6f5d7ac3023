pub mod CarriedOut
pub mod Ending
pub mod InTurn
pub mod Outcome
pub mod Outside
pub mod Reading
pub mod Runs
pub mod Writing
