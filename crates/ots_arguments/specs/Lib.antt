pub mod Arguments
pub mod Values
