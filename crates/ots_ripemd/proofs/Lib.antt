mod Chaining
pub mod Digests
mod Lines
mod Pieces
mod Writing
