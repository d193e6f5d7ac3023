pub mod Request
pub mod Reply
pub mod Sheet
pub mod Order
