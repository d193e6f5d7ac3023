-- The address of a calendar. Source: this project's profile of the http URI (RFC 9110, section 4.2.1), with a host and
-- a port and no path.
use Rattle.std.specs.Prelude.{◌≡◌, ℕ, ◌+◌, ◌<◌, ◌≤◌, ◌==◌, ◌||◌, ◌⊎◌, Bool, List, [], ◌∷◌, ◌++◌, length, take, drop}
use Rattle.std.specs.Prelude.{IsTrue, codes, decimal, slice_index}
use Rattle.std.specs.Char.{is_ascii_alphanumeric}
use Rattle.ots_address.specs.declared.limits.TheConstants.{MAX_HOST, DEFAULT_PORT}

abbrev pub colon : ℕ
colon = 58

-- A letter, a digit, `-` or `.`.
abbrev pub is_host_byte : ℕ → Bool
is_host_byte b = is_ascii_alphanumeric b || (b == 45) || (b == 46)

-- What may follow the host: nothing, and the port is 80, or a colon and the port from 1 on, without leading zeros.
abbrev pub IsPortPart : List ℕ → ℕ → Type 0
IsPortPart after port = ((after ≡ []) × (port ≡ DEFAULT_PORT))
    ⊎ ((after ≡ colon ∷ decimal port) × (1 ≤ port) × (port ≤ 65535))

-- What follows `http://`: the host, of 1 to MAX_HOST bytes, and maybe the port.
pub record IsHostAndPort (rest host : List ℕ) (port : ℕ) : Type 0 where
  pub least : 1 ≤ length host
  pub greatest : length host ≤ MAX_HOST
  pub bytes : (k : ℕ) → k < length host → IsTrue (is_host_byte (slice_index host k))
  pub after : List ℕ
  pub text : rest ≡ host ++ after
  pub port_is : IsPortPart after port

-- The text is the address of this host and port.
pub record IsAddress (text host : List ℕ) (port : ℕ) : Type 0 where
  pub rest : List ℕ
  pub scheme : text ≡ codes "http://" ++ rest
  pub parts : IsHostAndPort rest host port

-- How an address is kept: its text, how many bytes after `http://` are its host, and its port.
pub record KeepsAddress (text : List ℕ) (n port : ℕ) : Type 0 where
  pub address : IsAddress text (take n (drop 7 text)) port
  pub within : 7 + n ≤ length text

-- What contracts see of an address.
pub record AddressParts : Type 0 where
  pub text : List ℕ
  pub host : List ℕ
  pub port : ℕ

-- The host and the port are those that the text names.
abbrev pub IsNamed : AddressParts → Type 0
IsNamed address = IsAddress address.text address.host address.port

abbrev pub text_of : AddressParts → List ℕ
text_of address = address.text
