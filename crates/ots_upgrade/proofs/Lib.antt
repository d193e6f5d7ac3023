pub mod AskedWith
pub mod OneList
pub mod Pairwise
pub mod WithinLimit
