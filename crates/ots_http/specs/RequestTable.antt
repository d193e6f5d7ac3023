-- What the bytes of a request ask of a calendar. Source: the table of this project's HTTP profile, over the paths of
-- the reference calendar (opentimestamps-server, `otsserver/rpc.py`: `POST /digest`, `GET /timestamp/HEX`); `GET
-- /records/N` is this project's own. Its first line that fits decides.
use Rattle.std.specs.Prelude.{◌≡◌, ℕ, ◌*◌, Bool, ◌==◌, nat_eq, nat_le, nat_lt, not, ◌&&◌, ◌||◌, List, length, take}
use Rattle.std.specs.Prelude.{drop, slice_index, bytes_eq, codes}
use Rattle.std.specs.Str.Parse.{digits_value}
use Rattle.std.specs.Prelude.{if◌then◌else◌, Result, Ok, Err}
use Rattle.httparse.specs.Grammar.{RequestHead}
use Rattle.hex.specs.declared.error.FromHexError.{FromHexError}
use Rattle.hex.specs.Hex.{decode_of}
use Rattle.ots_outside.specs.declared.small_bytes.TheConstants.{MAX_DIGEST}
use Rattle.ots_http.specs.declared.fields.StatedLength.{StatedLength}
use Rattle.ots_http.specs.declared.fields.StatedLength.TheVariants.{Absent, Malformed, TooGreat, Length}
use Rattle.ots_http.specs.declared.request.Request.{Request}
use Rattle.ots_http.specs.declared.request.Request.TheVariants.{Digest, Timestamp, Records, Refused}
use Rattle.ots_http.specs.Head.{HasRequestHead, HasNoRequestHead}
use Rattle.ots_http.specs.declared.limits.TheConstants.{MAX_RECORD}
use Rattle.ots_http.specs.Fields.{NameAndValue, names_and_values, body_length, is_number}

abbrev pub begins_with : List ℕ → List ℕ → Bool
begins_with prefix bytes = bytes_eq prefix (take (length prefix) bytes)

-- POST: no length, a malformed one or a Transfer-Encoding field, one over 64; else 0, or fewer bytes than it says; else
-- the digest.
abbrev pub posted : List ℕ → StatedLength → Request
posted body Absent = Refused 411
posted body Malformed = Refused 400
posted body TooGreat = Refused 413
posted body (Length n) = if nat_eq n 0 || nat_lt (length body) n then Refused 400 else Digest (take n body)

abbrev pub post_request : List NameAndValue → List ℕ → Request
post_request fields body = posted body (body_length MAX_DIGEST fields)

-- An odd number of digits or another byte than a digit is no commitment.
abbrev pub decoded : Result (List ℕ) FromHexError → Request
decoded (Ok bytes) = Timestamp bytes
decoded (Err error) = Refused 400

-- GET: what stands after `/timestamp/`, in hexadecimal.
abbrev pub get_request : List ℕ → Request
get_request digits =
    if nat_lt (2 * MAX_DIGEST) (length digits) then Refused 404
    else (if nat_eq (length digits) 0 then Refused 400 else decoded (decode_of digits))

-- A number that is not printed so: a digit stands after a zero at its start.
abbrev pub has_leading_zero : List ℕ → Bool
has_leading_zero digits = nat_lt 1 (length digits) && slice_index digits 0 == 0x30

-- GET: what stands after `/records/`, a number of at most MAX_RECORD as it is printed, so without a sign or a leading
-- zero.
abbrev pub records_request : List ℕ → Request
records_request digits =
    if is_number digits && not (has_leading_zero digits) && nat_le (digits_value 10 digits) MAX_RECORD
    then Records (digits_value 10 digits) else Refused 400

-- What takes no other method than GET.
abbrev pub if_get : List ℕ → Request → Request
if_get method request = if bytes_eq method (codes "GET") then request else Refused 405

-- A target that asks for records, or for nothing.
abbrev pub records_by : List ℕ → List ℕ → Request
records_by method target =
    if begins_with (codes "/records/") target then if_get method (records_request (drop 9 target)) else Refused 404

-- A target that asks for something.
abbrev pub asked_by : List ℕ → List ℕ → Request
asked_by method target =
    if begins_with (codes "/timestamp/") target then if_get method (get_request (drop 11 target))
    else records_by method target

-- The request by the parts of a head and what follows it.
abbrev pub request_by : List ℕ → List ℕ → List NameAndValue → List ℕ → Request
request_by method target fields body =
    if bytes_eq target (codes "/digest") then
    (if bytes_eq method (codes "POST") then post_request fields body else Refused 405)
    else asked_by method target

-- The request of a whole input: by its head, or 400 where no prefix of it is a head.
pub data IsRequest (input : List ℕ) (request : Request) : Type 0 where
  by_head : (h : RequestHead) (body : List ℕ) → HasRequestHead input h body
      → request ≡ request_by h.method h.target (names_and_values h.fields) body → IsRequest input request
  no_head : HasNoRequestHead input → request ≡ Refused 400 → IsRequest input request
