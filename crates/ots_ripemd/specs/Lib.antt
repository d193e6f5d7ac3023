pub mod Hasher
pub mod Ripemd160
pub mod Rounds
