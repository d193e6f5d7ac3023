pub mod Varuint
pub mod Reading
pub mod Continued
pub mod Step
pub mod PartialLength
pub mod LengthStep
