pub mod Kind
pub mod Uri
pub mod NewUri
pub mod Payload
pub mod Attestation
pub mod AttestationRef
pub mod PayloadFault
pub mod PayloadRead
