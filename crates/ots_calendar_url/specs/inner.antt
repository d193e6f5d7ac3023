-- What only the code and its proofs cite.
pub mod Authority
pub mod Reading
