-- What `sample` prints.
use Rattle.std.specs.Prelude.{◌≡◌, ℕ}
use Rattle.ots_client_endings.specs.Ending.{Ending, printing}
use Rattle.ots_client_text.specs.Lines.{sample_text}
use Rattle.ots_client_text.specs.Status.{verdict_status}
use Rattle.ots_sample.specs.Sample.{IsSample}
use Rattle.ots_sample.specs.declared.outcome.Sample.{Sample}

-- A proof of n paths is made by the rule and verified, and what is told of it is printed.
abbrev pub Samples : ℕ → Ending → Type 0
Samples n e = (s : Sample) × IsSample n s × (e ≡ printing (verdict_status s.verdict) (sample_text s))
