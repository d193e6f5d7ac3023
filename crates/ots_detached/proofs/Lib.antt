pub mod Headers
pub mod Files
pub mod BothWays
pub mod FaultOrFile
pub mod Written
