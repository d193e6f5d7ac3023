-- What an object in memory tells of its calls.
use Rattle.std.specs.Prelude.{ℕ, Bool, ◌==◌, List, Result, Ok, Err}
use Rattle.std.specs.List.{list_any}
use Rattle.ots_base.specs.Cause.{one_more}

pub record CallsTold : Type 0 where
  -- the numbers of the calls that are to fail, the first call being number 1
  pub failing : List ℕ
  -- how many calls were made
  pub made : ℕ

-- Whether the next call is listed to fail.
abbrev pub is_next_listed : CallsTold → Bool
is_next_listed calls = list_any (λ number. number == one_more calls.made) calls.failing

-- The calls after one more.
abbrev pub after_call : CallsTold → CallsTold
after_call calls = record calls { made = one_more calls.made }

-- The count of faults after a call with this answer, where each `Err` is a fault.
abbrev pub faults_after : {T E : Type 0} → ℕ → Result T E → ℕ
faults_after faults (Ok value) = faults
faults_after faults (Err error) = one_more faults
