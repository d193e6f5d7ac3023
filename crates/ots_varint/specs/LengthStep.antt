-- What the length of varbytes that comes byte by byte answers.
use Rattle.std.specs.Prelude.{ℕ, Bool, true, false, nat_lt, if◌then◌else◌}
use Rattle.ots_varint.specs.declared.reading.VaruintRead.{VaruintRead}
use Rattle.ots_varint.specs.declared.reading.VaruintRead.TheVariants as read
use Rattle.ots_varint.specs.declared.varbytes_state.LengthStep.{LengthStep}
use Rattle.ots_varint.specs.declared.varbytes_state.LengthStep.TheVariants.{More, Length, NonMinimal, TooLarge}
use Rattle.ots_varint.specs.declared.varbytes_state.LengthStep.TheVariants.{TooShort, TooLong}

-- by what is read of all bytes so far
abbrev pub length_step : ℕ → ℕ → VaruintRead → LengthStep
length_step least greatest (read.Value n used) =
    if nat_lt n least then TooShort n else if nat_lt greatest n then TooLong n else Length n
length_step least greatest read.Short = More
length_step least greatest read.NonMinimal = NonMinimal
length_step least greatest read.TooLarge = TooLarge

abbrev pub is_more : LengthStep → Bool
is_more More = true
is_more (Length n) = false
is_more NonMinimal = false
is_more TooLarge = false
is_more (TooShort n) = false
is_more (TooLong n) = false
