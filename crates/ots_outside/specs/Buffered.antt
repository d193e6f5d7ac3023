-- Bytes on their way to a sink, through a buffer before it.
use Rattle.std.specs.Prelude.{◌≡◌, ℕ, List, ◌++◌, Option}
use Rattle.ots_outside.specs.Streams.{Takes}

-- A text is what a sink has taken of it, and then what a buffer still holds.
pub record Buffered (before now : Option (List ℕ)) (text held : List ℕ) : Type 0 where
  pub written : List ℕ
  pub appended : Takes before now written
  pub joined : text ≡ written ++ held
