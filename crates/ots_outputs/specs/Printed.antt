-- Printing a text, with which a run ends.
use Rattle.std.specs.Prelude.{◌≡◌, ◌≤◌, ◌⊎◌, ℕ, List, Option, Result, MatchResult}
use Rattle.ots_outside.specs.Streams.{Takes, TakesPrefix}
use Rattle.ots_outside.specs.declared.failed.Failed.{Failed}

-- A text is the last thing that is printed: the sink takes it whole and the run ends with this status; or the sink
-- fails, has taken a prefix of it, and that is a write fault.
abbrev pub PrintsLastOr : {S : Type 0} → S → Type 0 → S → List ℕ → Option (List ℕ) → Option (List ℕ) → S → Type 0
PrintsLastOr write_fault printing status text taken now r =
    (Takes taken now text × (r ≡ status)) ⊎ (printing × TakesPrefix taken now text × (r ≡ write_fault))

-- What stays of a sink that was printed on: it is the same, and its count of faults has not fallen.
pub record SinkStays {K : Type 0} (faults : K → ℕ) (keeps : K → K → Type 0) (old new : K) : Type 0 where
  pub later : faults old ≤ faults new
  pub same : keeps old new

-- A text was printed: the sink has taken it whole; or the sink failed, and has taken a prefix of it.
abbrev pub Prints : (List ℕ → Type 0) → Type 0 → Option (List ℕ) → Option (List ℕ) → Result (Unit {0}) Failed → Type 0
Prints IsText printing taken now r = (text : List ℕ) × IsText text
    × MatchResult r (λ _. Takes taken now text) (λ _. printing × TakesPrefix taken now text)
