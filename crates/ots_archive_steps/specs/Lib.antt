pub mod Ends
pub mod Printing
pub mod Inputs
pub mod Entries
pub mod Proofs
pub mod Making
pub mod Worst
