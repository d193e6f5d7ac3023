pub mod As
pub mod Given
pub mod Taken
pub mod inner
