mod Cycle
mod Standing
mod Confirmed
mod Asked
