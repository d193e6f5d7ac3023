pub mod Digits
pub mod Escapes
pub mod Keeping
pub mod LineByLine
pub mod Naming
pub mod SumForm
