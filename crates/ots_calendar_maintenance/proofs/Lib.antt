mod Anchoring
mod Carrying
mod Listing
mod Migrating
mod Tipping
mod Within
pub mod OneAnchor
pub mod OneEnding
