-- The number before a list or a run of bytes, in the shortest of its four forms, low byte first. Source:
-- Bitcoin Core, src/serialize.h, WriteCompactSize; Bitcoin developer reference, "CompactSize Unsigned Integers".
use Rattle.std.specs.Prelude.{ℕ, ◌^◌, List, [], ◌∷◌, nat_lt, if◌then◌else◌}
use Rattle.std.specs.Int.{w16, w32, w64, to_le_bytes}

unfoldable pub compact : ℕ → List ℕ
compact n =
    if nat_lt n 0xfd then n ∷ []
    else if nat_lt n (2 ^ 16) then 0xfd ∷ to_le_bytes w16 n
    else if nat_lt n (2 ^ 32) then 0xfe ∷ to_le_bytes w32 n
    else 0xff ∷ to_le_bytes w64 n
