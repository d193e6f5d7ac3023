-- What a link gave to its reader in a call.
use Rattle.std.specs.Prelude.{ℕ, ◌≤◌, List, length, Option}
use Rattle.ots_base.specs.Told.{BothTold}
use Rattle.ots_outside.specs.Link.{LinkTold, LinkGives}

-- At most `most` bytes were read. The bytes taken stay.
pub record GivesAtMost (most : ℕ) (old new : Option LinkTold) : Type 0 where
  pub bytes : List ℕ
  pub gives : BothTold (LinkGives bytes) old new
  pub at_most : length bytes ≤ most
