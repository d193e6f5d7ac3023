pub mod Texts
pub mod Keys
pub mod OneSet
pub mod Lengths
pub mod Places
pub mod Kept
