pub mod OneRound
pub mod OnDisk
pub mod OneHeader
pub mod NotFound
