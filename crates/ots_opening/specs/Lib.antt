pub mod Images
pub mod Opening
