pub mod File
pub mod FileFault
pub mod FileRead
pub mod OneAnswer
pub mod SourceHash
