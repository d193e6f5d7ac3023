pub mod OneAttestation
pub mod UriBytes
pub mod Payloads
pub mod PayloadOrFault
pub mod Lengths
pub mod Keys
