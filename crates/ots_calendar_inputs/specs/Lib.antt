pub mod Address
pub mod Block
pub mod Digests
pub mod Key
pub mod DigestLines
pub mod Old
