mod Blocks
pub mod Leading
