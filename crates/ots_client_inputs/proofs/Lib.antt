pub mod Inputs
mod Reading
