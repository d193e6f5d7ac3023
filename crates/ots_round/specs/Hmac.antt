-- HMAC (RFC 2104, section 2) with SHA-256 (FIPS 180-4), for keys that fit a block of 64 bytes.
use Rattle.std.specs.Prelude.{ℕ, ◌-◌, List, ◌++◌, length, map, replicate, bit_xor}
use Rattle.sha2.specs.Sha256.{sha256}

-- a key with zero bytes after it, to a block
abbrev pub filled : List ℕ → List ℕ
filled key = key ++ replicate (64 - length key) 0

-- each byte, exclusive or a mask
abbrev pub masked : ℕ → List ℕ → List ℕ
masked mask block = map (λ byte. bit_xor byte mask) block

-- the keyed hash under a key that fills a block
abbrev pub keyed : List ℕ → List ℕ → List ℕ
keyed block message = sha256 (masked 0x5c block ++ sha256 (masked 0x36 block ++ message))

abbrev pub hmac_sha256 : List ℕ → List ℕ → List ℕ
hmac_sha256 key message = keyed (filled key) message
