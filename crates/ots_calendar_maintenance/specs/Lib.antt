pub mod Anchor
pub mod Carrying
pub mod List
pub mod Migrate
pub mod Tip
