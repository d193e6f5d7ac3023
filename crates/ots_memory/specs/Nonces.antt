-- What the form in memory of a giver of nonces tells.
use Rattle.std.specs.Prelude.{ℕ, Bool, ◌||◌, List, length, nat_lt}
use Rattle.ots_memory.specs.Calls.{CallsTold, is_next_listed}

pub record ListNoncesTold : Type 0 where
  -- the bytes to come
  pub left : List ℕ
  pub calls : CallsTold
  -- how many of them failed
  pub faults : ℕ

-- Whether the next call fails: its number is listed, or too few bytes are to come.
abbrev pub is_fill_refused : ListNoncesTold → Bool
is_fill_refused nonces = is_next_listed nonces.calls || nat_lt (length nonces.left) 16
