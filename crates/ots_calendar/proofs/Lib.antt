pub mod Growing
pub mod WholeWay
mod Closing
mod AnchoringIn
mod Anchored
mod Asked
mod Bodies
mod Branches
mod Climbing
mod Keeping
mod Looking
mod OneTicket
mod Standing
mod Tipping
mod Truths
