-- What only the code and its proofs cite.
pub mod Giving
pub mod Making
pub mod Telling
