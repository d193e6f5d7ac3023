-- The attestation whose URI or payload stands elsewhere.
use Rattle.ots_attest.specs.declared.attestation.Attestation.{Attestation}
use Rattle.ots_attest.specs.declared.attestation.Attestation.TheVariants as owned
use Rattle.ots_attest.specs.declared.attestation_ref.AttestationRef.{AttestationRef}
use Rattle.ots_attest.specs.declared.attestation_ref.AttestationRef.TheVariants.{Pending, Bitcoin, Litecoin, Unknown}
use Rattle.ots_attest.specs.declared.other.OtherParts.{OtherParts}
use Rattle.ots_attest.specs.declared.other_ref.OtherRef.{OtherRef}

-- which attestation of an unknown kind it is
abbrev pub other_of : OtherRef → OtherParts
other_of other = record { kind = other.kind; payload = other.payload.now; unknown = other.unknown }

-- which attestation it is
abbrev pub attestation_of : AttestationRef → Attestation
attestation_of (Pending uri) = owned.Pending uri.text.now
attestation_of (Bitcoin height) = owned.Bitcoin height
attestation_of (Litecoin height) = owned.Litecoin height
attestation_of (Unknown other) = owned.Unknown (other_of other)
