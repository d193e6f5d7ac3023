pub mod Serve
pub mod ServeReading
