-- What bytes are as the URI of a pending attestation.
use Rattle.std.specs.Prelude.{ℕ, List, length, not, nat_lt, if◌then◌else◌, Option, Some, None, Result, Ok, Err}
use Rattle.std.specs.List.{position_from}
use Rattle.ots_base.specs.declared.limits.TheConstants.{MAX_URI}
use Rattle.ots_attest.specs.declared.uri.Uri.{Uri}
use Rattle.ots_attest.specs.declared.uri.UriError.{UriError}
use Rattle.ots_attest.specs.declared.uri.UriError.TheVariants.{TooLong, BadChar}
use Rattle.ots_attest.specs.Uri.{is_uri_byte}

-- the place of the first byte that is not allowed
abbrev pub first_bad : List ℕ → Option ℕ
first_bad bytes = position_from (λ b. not (is_uri_byte b)) 0 bytes

-- the value, unless a byte at this place is not allowed
abbrev pub unless_bad : {A : Type 0} → Option ℕ → A → Result A UriError
unless_bad None value = Ok value
unless_bad (Some place) value = Err (BadChar place)

-- the value, unless the bytes are too many, or one of them is not allowed, the first of which is named
abbrev pub where_uri : {A : Type 0} → List ℕ → A → Result A UriError
where_uri bytes value =
    if nat_lt MAX_URI (length bytes) then Err (TooLong (length bytes))
    else unless_bad (first_bad bytes) value

abbrev pub uri_check : List ℕ → Result (Unit {0}) UriError
uri_check bytes = where_uri bytes tt

abbrev pub new_uri : List ℕ → Result Uri UriError
new_uri bytes = where_uri bytes bytes
