-- What a reader answers to the bytes at a number's place. It looks at them one by one, and at each
-- the first line that fits decides: a tenth byte above 1 is too large; a byte of 0 that isn't the
-- first is not minimal; a byte below 128 ends the number; else more bytes are needed.
use Rattle.std.specs.Prelude.{◌≡◌, ◌<◌, ◌^◌, length, drop, ◌++◌, ℕ, suc, ◌+◌, ◌*◌, ◌-◌, List, [], ◌∷◌, nat_lt, nat_eq}
use Rattle.std.specs.Prelude.{◌&&◌, if◌then◌else◌}
use Rattle.ots_varint.specs.Varuint.{varuint}
use Rattle.ots_varint.specs.declared.reading.VaruintRead.{VaruintRead}
use Rattle.ots_varint.specs.declared.reading.VaruintRead.TheVariants.{Value, Short, NonMinimal, TooLarge}

-- the answer where seven low bits stand before the rest
abbrev pub above : ℕ → VaruintRead → VaruintRead
above low (Value n used) = Value (low + 128 * n) (used + 1)
above low Short = Short
above low NonMinimal = NonMinimal
above low TooLarge = TooLarge

-- the bytes from position i on
abbrev pub reading_from : ℕ → List ℕ → VaruintRead
reading_from i [] = Short
reading_from i (b ∷ bs) =
    if nat_eq i 9 && nat_lt 1 b then TooLarge
    else if nat_lt 0 i && nat_eq b 0 then NonMinimal
    else if nat_lt b 128 then Value b 1
    else above (b - 128) (reading_from (suc i) bs)

unfoldable pub reading : List ℕ → VaruintRead
reading bytes = reading_from 0 bytes

-- the first `used` bytes are the spelling of n, a number below 2^64
pub record IsSpelledAt (bytes : List ℕ) (n used : ℕ) : Type 0 where
  pub small : n < 2 ^ 64
  pub prefix : bytes ≡ varuint n ++ drop used bytes
  pub len : used ≡ length (varuint n)
