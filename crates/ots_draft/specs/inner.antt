-- What only the code and its proofs cite.
pub mod Gathered
pub mod Gathering
pub mod Reading
