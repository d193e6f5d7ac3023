pub mod Hmac
pub mod Key
pub mod Round
