-- What a run has to come from outside.
use Rattle.std.specs.Prelude.{◌≡◌, ℕ, List, Option, Some}
use Rattle.ots_base.specs.Cause.{Rose}
use Rattle.ots_outside.specs.Dialer.{DialerTold, Sent}

-- Before it a dialer tells what was sent and these replies to come, and a source of nonces these bytes to come. No call
-- of either fails in it.
pub record RunsFrom {D N : Type 0} (told : D → DialerTold) (faults : D → ℕ) (left : N → Option (List ℕ))
    (draw_faults : N → ℕ) (replies : List (List ℕ)) (bytes : List ℕ) (old new : D) (before now : N) : Type 0 where
  pub sent : List Sent
  pub sent_is : (told old).sent ≡ Some sent
  pub replies_are : (told old).replies ≡ Some replies
  pub bytes_are : left before ≡ Some bytes
  pub heard : ¬ Rose (faults old) (faults new)
  pub drawn : ¬ Rose (draw_faults before) (draw_faults now)
