-- The first bytes of a length that has not ended, and its bounds.
use Rattle.std.specs.Prelude.{ℕ, List}

pub record PartialLength : Type 0 where
  pub fed : List ℕ
  pub least : ℕ
  pub greatest : ℕ
