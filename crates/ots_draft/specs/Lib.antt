pub mod Draft
pub mod inner
