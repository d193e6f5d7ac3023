-- What a number that comes byte by byte answers.
use Rattle.std.specs.Prelude.{Bool, true, false}
use Rattle.ots_varint.specs.declared.reading.VaruintRead.{VaruintRead}
use Rattle.ots_varint.specs.declared.reading.VaruintRead.TheVariants as read
use Rattle.ots_varint.specs.declared.state.Step.{Step}
use Rattle.ots_varint.specs.declared.state.Step.TheVariants.{More, Value, NonMinimal, TooLarge}

-- by what is read of all bytes so far
abbrev pub step_of : VaruintRead → Step
step_of (read.Value n used) = Value n
step_of read.Short = More
step_of read.NonMinimal = NonMinimal
step_of read.TooLarge = TooLarge

abbrev pub is_more : Step → Bool
is_more More = true
is_more (Value n) = false
is_more NonMinimal = false
is_more TooLarge = false
