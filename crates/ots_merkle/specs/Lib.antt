pub mod Hashes
pub mod CalendarTree
pub mod BlockTree
pub mod Row
pub mod Extended
pub mod Grown
