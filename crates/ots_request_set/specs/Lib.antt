pub mod RequestSet
pub mod inner
