pub mod Forms
pub mod NameLemmas
pub mod NumberLemmas
pub mod Parsed
