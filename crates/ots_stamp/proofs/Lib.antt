pub mod FormBelow
pub mod Founded
pub mod Gathered
pub mod Provable
pub mod WayLemmas
