pub mod Pieces
mod Hexadecimal
