-- What an accepter in memory tells, over links of any kind.
use Rattle.std.specs.Prelude.{ℕ, Bool, List, Option, Some, None, if◌then◌else◌}
use Rattle.ots_memory.specs.Calls.{CallsTold}

pub record ListAccepterTold (L : Type 0) : Type 0 where
  -- the links to come
  pub coming : List L
  -- the links that were given back and found room, in order
  pub kept : List L
  -- how many more find room
  pub room : ℕ
  -- whether every link that was given back found room
  pub tells : Bool
  -- how many links `accept` has answered
  pub accepted : ℕ
  -- its calls of `listen` and `accept` together
  pub calls : CallsTold
  -- how many of them failed
  pub faults : ℕ

-- The links that were given back, as long as all of them found room.
abbrev pub returned_of : {L : Type 0} → ListAccepterTold L → Option (List L)
returned_of accepter = if accepter.tells then Some accepter.kept else None
