-- When a fault of the outside may be answered.
use Rattle.std.specs.Prelude.{◌≡◌, ℕ, ◌+◌, ◌-◌, ◌^◌, ◌≤◌, min, Result, OnErr}

-- One more, up to 2^64 - 1, where a count stays.
abbrev pub one_more : ℕ → ℕ
one_more count = min (count + 1) (2 ^ 64 - 1)

-- A count of faults rose in a call, or stands at its last value, 2^64 - 1, which it never leaves.
abbrev pub Rose : ℕ → ℕ → Type 0
Rose before now = one_more before ≤ now

-- The count never falls, and an `Err` came only where it rose.
pub record HasCause {T E : Type 0} (before now : ℕ) (result : Result T E) : Type 0 where
  pub later : before ≤ now
  pub failed : OnErr result (Rose before now)

-- The same of a call with several refusals, of which `failed` says that it is `Failed`.
pub record HasCauseWhere (failed : Type 0) (before now : ℕ) : Type 0 where
  pub later : before ≤ now
  pub rose : failed → Rose before now

-- A count rises in each call of which `counted` holds, and stays in every other.
pub record CountsWhere (counted : Type 0) (before now : ℕ) : Type 0 where
  pub later : before ≤ now
  pub rose : counted → Rose before now
  pub stays : ¬ counted → now ≡ before
