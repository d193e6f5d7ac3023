-- Printing a text after which the run goes on.
use Rattle.std.specs.Prelude.{List, ℕ, Option, Result, MatchResult}
use Rattle.ots_outside.specs.Streams.{Takes, TakesPrefix}
use Rattle.ots_outside.specs.declared.failed.Failed.{Failed}

-- the sink has taken the text whole; or the sink failed, and has taken a prefix of it
abbrev pub PrintsText : Type 0 → List ℕ → Option (List ℕ) → Option (List ℕ) → Result (Unit {0}) Failed → Type 0
PrintsText printing text taken now r =
    MatchResult r (λ _. Takes taken now text) (λ _. printing × TakesPrefix taken now text)
