-- The spelling of a number below 2^64: base 128, least significant seven bits first, in the shortest
-- form. Every byte but the last has its high bit set. Source: `write_varuint` of python-opentimestamps,
-- opentimestamps/core/serialize.py.
use Rattle.std.specs.Prelude.{ℕ, zero, suc, ◌+◌, ◌/◌, ◌%◌, List, [], ◌∷◌, ◌++◌, length, nat_lt, if◌then◌else◌}

-- in at most k + 1 bytes
abbrev pub in_bytes : ℕ → ℕ → List ℕ
in_bytes zero n = n ∷ []
in_bytes (suc k) n = if nat_lt n 128 then n ∷ [] else (128 + n % 128) ∷ in_bytes k (n / 128)

-- a number below 2^64 has at most 10 bytes
unfoldable pub varuint : ℕ → List ℕ
varuint n = in_bytes 9 n

-- a length and then as many bytes
unfoldable pub varbytes : List ℕ → List ℕ
varbytes x = varuint (length x) ++ x
