pub mod OneOperation
pub mod Spelling
pub mod AppliedLength
