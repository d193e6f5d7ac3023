pub mod Header
pub mod DoubleSha256
pub mod HeaderTable
pub mod TableRead
