-- A block header as 80 bytes: version 4, hash of the previous header 32, Merkle root 32, time 4, bits 4,
-- nonce 4, each number with its low byte first. Source: Bitcoin Core, src/primitives/block.h,
-- CBlockHeader; Bitcoin developer reference, "Block Headers".
use Rattle.std.specs.Prelude.{◌≡◌, ◌<◌, ◌^◌, ℕ, List, ◌++◌, length, take, drop}
use Rattle.std.specs.Int.{w32, to_le_bytes, from_le_bytes}
use Rattle.ots_headers.specs.declared.header.Header.{Header}

abbrev pub serialized : Header → List ℕ
serialized h =
    to_le_bytes w32 h.version ++ h.previous ++ h.root ++ to_le_bytes w32 h.time ++ to_le_bytes w32 h.bits
    ++ to_le_bytes w32 h.nonce

-- numbers of 32 bits and hashes of 32 bytes, as every header has them
pub record IsHeader (h : Header) : Type 0 where
  pub version : h.version < 2 ^ 32
  pub previous : length h.previous ≡ 32
  pub root : length h.root ≡ 32
  pub time : h.time < 2 ^ 32
  pub bits : h.bits < 2 ^ 32
  pub nonce : h.nonce < 2 ^ 32

-- the number of 32 bits, and the hash, whose first byte stands at a place
abbrev pub number_at : ℕ → List ℕ → ℕ
number_at place b = from_le_bytes w32 (take 4 (drop place b))

abbrev pub hash_at : ℕ → List ℕ → List ℕ
hash_at place b = take 32 (drop place b)

-- the header at the start of these bytes
unfoldable pub header_in : List ℕ → Header
header_in b = record {
  version = number_at 0 b;
  previous = hash_at 4 b;
  root = hash_at 36 b;
  time = number_at 68 b;
  bits = number_at 72 b;
  nonce = number_at 76 b;
}
