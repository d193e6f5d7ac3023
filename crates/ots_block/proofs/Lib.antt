pub mod Loops
pub mod Ending
pub mod Spelled
pub mod OneTransaction
pub mod Laid
pub mod Blocks
pub mod OneAnswer
