pub mod Begins
mod Totals
mod Stages
mod Moves
mod Turns
mod Callers
