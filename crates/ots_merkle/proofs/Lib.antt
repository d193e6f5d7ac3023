pub mod Trees
pub mod Rows
pub mod PathLaws
pub mod Extending
pub mod Blocks
pub mod Spare
