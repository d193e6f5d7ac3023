-- The bytes of a request that a client writes. Source: RFC 9112, sections 2.1 and 3, and RFC 9110, section 7.2, with
-- the paths and the Accept field of python-opentimestamps (`calendar.py`, `RemoteCalendar`).
use Rattle.std.specs.Prelude.{ℕ, nat_eq, List, ◌∷◌, ◌++◌, length, codes, decimal, if◌then◌else◌}
use Rattle.hex.specs.Hex.{encode_lower}
use Rattle.ots_address.specs.Address.{AddressParts, colon}
use Rattle.ots_address.specs.declared.limits.TheConstants.{DEFAULT_PORT}
use Rattle.ots_http.specs.declared.asking.Asked.{Asked}
use Rattle.ots_http.specs.declared.asking.Asked.TheVariants.{Post, Get, Records}

-- The host, with `:PORT` where the port is not 80.
abbrev pub host_text : List ℕ → ℕ → List ℕ
host_text host port = if nat_eq port DEFAULT_PORT then host else host ++ colon ∷ decimal port

-- what stands between the host and the length of a digest
abbrev pub digest_fields : List ℕ
digest_fields =
    codes "\r\nAccept: application/vnd.opentimestamps.v1\r\nContent-Type: application/octet-stream\r\nContent-Length: "

-- The request that posts a digest.
abbrev pub post_text : List ℕ → List ℕ → List ℕ
post_text host digest =
    codes "POST /digest HTTP/1.1\r\nHost: " ++ host ++ digest_fields ++ decimal (length digest)
    ++ codes "\r\nConnection: close\r\n\r\n" ++ digest

-- what stands after the target of a request that asks for something
abbrev pub get_end : List ℕ → List ℕ
get_end host = codes " HTTP/1.1\r\nHost: " ++ host
    ++ codes "\r\nAccept: application/vnd.opentimestamps.v1\r\nConnection: close\r\n\r\n"

-- The request that asks for the timestamp of a message.
abbrev pub get_text : List ℕ → List ℕ → List ℕ
get_text host message = codes "GET /timestamp/" ++ encode_lower message ++ get_end host

-- The request that asks for the records from this number on.
abbrev pub records_text : List ℕ → ℕ → List ℕ
records_text host number = codes "GET /records/" ++ decimal number ++ get_end host

abbrev pub request_bytes : AddressParts → Asked → List ℕ
request_bytes address (Post digest) = post_text (host_text address.host address.port) digest
request_bytes address (Get message) = get_text (host_text address.host address.port) message
request_bytes address (Records number) = records_text (host_text address.host address.port) number
