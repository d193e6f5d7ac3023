-- A sample is always verified.
use Rattle.std.proofs.Common.{◌≡◌, ◌⊎◌, ℕ, List, ◌/◌, inl, inr, ◌∙◌, ap}
use Rattle.ots_checking.specs.Sampled.{Samples}
use Rattle.ots_client_endings.specs.Outcome.{Excused}
use Rattle.ots_client_endings.specs.Runs.{Moment, Runs}
use Rattle.ots_client_endings.proofs.Outcome.{only_prints, outcome}
use Rattle.ots_client_inputs.specs.Inputs.{Input}
use Rattle.ots_client_text.specs.Status.{verdict_status}
use Rattle.ots_client_text.specs.declared.status.Status.{Status}
use Rattle.ots_client_text.specs.declared.status.Status.TheVariants.{Done}
use Rattle.ots_sample.specs.Sample.{IsSample}
use Rattle.ots_sample.specs.declared.outcome.Sample.{Sample}
use Rattle.ots_verdicts.specs.declared.verdicts.Chain.TheVariants.{Bitcoin}
use Rattle.ots_verdicts.specs.declared.verdicts.Verdict.TheVariants.{Yes}

pub is_sampled : (time n : ℕ) (inputs : List Input) (old new : Moment) (r : Status) → ((n : ℕ) (s : Sample) → IsSample n s → s.verdict ≡ Yes Bitcoin (n / 2) time)
    → Runs (λ told. Samples n) inputs old new r → (r ≡ Done) ⊎ Excused old new r
is_sampled time n inputs old new r verified h = elim (outcome (λ t. Samples n) inputs old new r h) [
  | inr excused ↦ inr excused
  | inl (e, (s, is, text), may) ↦ inl (only_prints e r (verdict_status s.verdict) _ text may ∙ ap verdict_status (verified n s is))
]
