-- What a record of calls notes.
use Rattle.std.specs.Prelude.{ℕ, List}

-- One call: numbers and bytes. The form that holds the record says what they mean.
pub record Note : Type 0 where
  pub numbers : List ℕ
  pub bytes : List ℕ
