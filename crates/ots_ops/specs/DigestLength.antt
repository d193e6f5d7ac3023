-- How long a digest is.
use Rattle.std.specs.Prelude.{◌≡◌, ◌⊎◌, ℕ}

-- A digest of SHA-1 or RIPEMD-160 has 20 bytes, one of SHA-256 has 32.
abbrev pub IsDigestLength : ℕ → Type 0
IsDigestLength n = (n ≡ 20) ⊎ (n ≡ 32)
