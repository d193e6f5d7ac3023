-- The target of a header: its compact form is a number of 23 bits and a power of 256. Source: Bitcoin Core,
-- src/arith_uint256.cpp, SetCompact, and src/pow.cpp, CheckProofOfWork.
use Rattle.std.specs.Prelude.{◌≡◌, ◌≢◌, ◌+◌, ◌-◌, ◌*◌, ◌/◌, ◌%◌, ◌^◌, ◌<◌, ℕ, List, [], ◌∷◌, length, nat_lt, Option}
use Rattle.std.specs.Prelude.{Some, None, if◌then◌else◌}

-- the number that these bytes are, the high byte first
unfoldable pub be_number : List ℕ → ℕ
be_number [] = 0
be_number (b ∷ bs) = b * 256 ^ length bs + be_number bs

-- the number that these bytes are, the low byte first
unfoldable pub le_number : List ℕ → ℕ
le_number [] = 0
le_number (b ∷ bs) = b + 256 * le_number bs

abbrev pub exponent : ℕ → ℕ
exponent bits = bits / 2 ^ 24

abbrev pub mantissa : ℕ → ℕ
mantissa bits = bits % 2 ^ 23

-- the number that the bits stand for
abbrev pub compact : ℕ → ℕ
compact bits =
    if nat_lt (exponent bits) 3
    then mantissa bits / 256 ^ (3 - exponent bits)
    else mantissa bits * 256 ^ (exponent bits - 3)

-- what a target is: no sign, not 0, and below 2 to the power 256
pub record HasTarget (bits : ℕ) : Type 0 where
  pub unsigned : (bits / 2 ^ 23) % 2 ≡ 0
  pub some : compact bits ≢ 0
  pub fits : compact bits < 256 ^ 32

abbrev pub IsTargetOf : ℕ → Option (List ℕ) → Type 0
IsTargetOf bits (Some number) = HasTarget bits × (length number ≡ 32) × (be_number number ≡ compact bits)
IsTargetOf bits None = HasTarget bits → ⊥
