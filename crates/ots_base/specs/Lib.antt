pub mod Cause
pub mod Memory
pub mod Table
pub mod Told
