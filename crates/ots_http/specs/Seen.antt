-- A link as it is seen before a conversation and after it.
use Rattle.std.specs.Prelude.{◌≡◌, ℕ, List, ◌++◌, Option}
use Rattle.ots_base.specs.Told.{BothTold}
use Rattle.ots_outside.specs.Link.{LinkTold, whole_input}

-- Of a link, what it tells and how often it has failed.
pub record LinkSeen : Type 0 where
  pub told : Option LinkTold
  pub faults : ℕ

-- After what it had taken, a link took these bytes, and its input is the same, of which some may have been read.
pub record Took (bytes : List ℕ) (old new : LinkTold) : Type 0 where
  pub input : whole_input new ≡ whole_input old
  pub taken : new.taken ≡ old.taken ++ bytes

abbrev pub Takes : List ℕ → LinkSeen → LinkSeen → Type 0
Takes bytes old new = BothTold (Took bytes) old.told new.told
