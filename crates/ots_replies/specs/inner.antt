-- What only the code and its proofs cite.
pub mod Words
pub mod Shape
pub mod Kept
pub mod Reading
