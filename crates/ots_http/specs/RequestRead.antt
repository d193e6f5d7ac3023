-- What is read of a link as a request.
use Rattle.std.specs.Prelude.{◌≡◌, ℕ, ◌<◌, ◌≤◌, nat_lt, if◌then◌else◌, List, [], length, take, Result, Ok, Err}
use Rattle.ots_outside.specs.declared.small_bytes.TheConstants.{MAX_DIGEST}
use Rattle.ots_http.specs.declared.request.Request.{Request}
use Rattle.ots_http.specs.declared.request.Request.TheVariants.{Digest, Refused}
use Rattle.ots_http.specs.declared.request.RequestError.{RequestError}
use Rattle.ots_http.specs.declared.request.RequestError.TheVariants.{Closed, LinkFault}
use Rattle.ots_http.specs.Fields.{NameAndValue}
use Rattle.ots_http.specs.RequestTable.{IsRequest, request_by, post_request}

-- The answer to an input without a byte is Closed, and to any other that of the table. A fault of the link may come in
-- place of either.
abbrev pub IsRequestAnswer : List ℕ → Result Request RequestError → Type 0
IsRequestAnswer input (Ok request) = (0 < length input) × IsRequest input request
IsRequestAnswer input (Err Closed) = input ≡ []
IsRequestAnswer input (Err LinkFault) = Unit {0}

-- ---- what the parts of a head decide before the body is read, for the reader's code

-- The first n bytes of a body as a digest, or 400 where it is shorter.
abbrev pub digest_of : ℕ → List ℕ → Request
digest_of n body = if nat_lt (length body) n then Refused 400 else Digest (take n body)

-- The request, or the length of the digest, whatever the body is.
abbrev pub Decides : (List ℕ → Request) → Result ℕ Request → Type 0
Decides request_of (Ok n) = (1 ≤ n) × (n ≤ MAX_DIGEST) × ((body : List ℕ) → request_of body ≡ digest_of n body)
Decides request_of (Err request) = (body : List ℕ) → request_of body ≡ request

abbrev pub DecidesHead : List ℕ → List ℕ → List NameAndValue → Result ℕ Request → Type 0
DecidesHead method target fields result = Decides (request_by method target fields) result

abbrev pub DecidesPost : List NameAndValue → Result ℕ Request → Type 0
DecidesPost fields result = Decides (post_request fields) result
