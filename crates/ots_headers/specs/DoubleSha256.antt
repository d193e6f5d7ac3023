-- SHA-256 twice, the hash of Bitcoin's headers and transactions. Source: Bitcoin Core, src/hash.h,
-- CHash256; FIPS 180-4 for SHA-256.
use Rattle.std.specs.Prelude.{ℕ, List}
use Rattle.sha2.specs.Sha256.{sha256}

abbrev pub double_sha256 : List ℕ → List ℕ
double_sha256 message = sha256 (sha256 message)
