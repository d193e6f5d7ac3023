-- What is written to a link.
use Rattle.std.specs.Prelude.{ℕ, List, Option, Result, OnOk}
use Rattle.ots_base.specs.Told.{BothTold}
use Rattle.ots_outside.specs.Link.{LinkTold, LinkTakes, LinkTakesPrefix}

-- The link took all these bytes, or a prefix of them where a write failed.
pub record WritesAll {T E : Type 0} (bytes : List ℕ) (old new : Option LinkTold) (result : Result T E) : Type 0 where
  pub whole : OnOk result (BothTold (LinkTakes bytes) old new)
  pub prefix : LinkTakesPrefix old new bytes
