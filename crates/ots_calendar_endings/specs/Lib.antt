pub mod Told
pub mod RunEnd
pub mod Ran
pub mod With
pub mod Files
pub mod Found
pub mod Moments
pub mod Printed
