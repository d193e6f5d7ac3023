pub mod AllBytes
pub mod NoSize
