pub mod Chain
pub mod Sampled
pub mod Verified
pub mod WholeChain
pub mod Yes
