pub mod Page
pub mod Round
