pub mod Items
pub mod Lengths
pub mod OneSample
pub mod Values
pub mod Yes
