-- A command has one answer by what was drawn and heard, and one that asks nobody has one answer, and so one status.
use Rattle.std.proofs.Common.{◌≡◌, Option, Some, None, inl, inr, sym, subst, ◌∙◌}
use Rattle.ots_base.specs.Cause.{Rose}
use Rattle.ots_checking.proofs.OneAnswer.{checks, samples, verifies}
use Rattle.ots_cli.specs.Answer.{Answers, inputs_read}
use Rattle.ots_cli.specs.Asking.{IsOffline}
use Rattle.ots_cli.proofs.ReadsBack.{offline_plain}
use Rattle.ots_completing.proofs.OneAnswer.{upgrades}
use Rattle.ots_completing.specs.Upgrade.{UpgradesFile}
use Rattle.ots_client_endings.specs.CarriedOut.{Ends, carried_out, no_memory, status_over}
use Rattle.ots_client_endings.specs.Ending.{Ending}
use Rattle.ots_client_endings.specs.Outcome.{Excused, UnlessExcused}
use Rattle.ots_client_endings.specs.Outside.{Outside}
use Rattle.ots_client_endings.specs.Runs.{Comes, as_defined, not_read, Moment, Runs}
use Rattle.ots_client_endings.proofs.Outcome.{carried_status, excused, only_prints, over_names, stop_rose}
use Rattle.ots_client_inputs.specs.Inputs.{names_in}
use Rattle.ots_client_text.specs.declared.status.Status.{Status}
use Rattle.ots_client_text.specs.declared.status.Status.TheVariants.{ReadFault}
use Rattle.ots_client_words.specs.Words.{ClientCommand, info, canon, merge, prune, verify, stamp, upgrade, sample, chain}
use Rattle.ots_inputs.specs.Opened.{StopsAt}
use Rattle.ots_outside.specs.Shelf.{Names}
use Rattle.ots_rewriting.specs.declared.rewriting.Rewriting.TheVariants.{Canon, Prune}
use Rattle.ots_rewriting.proofs.OneAnswer.{joins, rewrites, tells}
use Rattle.ots_stamping.proofs.OneAnswer.{stamps}
use Rattle.ots_stamping.specs.Stamp.{StampsFiles}

pub one_answer : (happens : Outside → Type 0) (names : Names) (command : Option ClientCommand) (d e : Ending) → IsOffline command
    → Answers happens command (Some names) d → Answers happens command (Some names) e → d ≡ e
one_answer happens names None d e alone f g = f ∙ sym g
one_answer happens names (Some (info name)) d e alone f g = tells names name d e f g
one_answer happens names (Some (canon from to)) d e alone f g = rewrites names Canon from to d e f g
one_answer happens names (Some (merge first second to)) d e alone f g = joins names first second to d e f g
one_answer happens names (Some (prune from to)) d e alone f g = rewrites names Prune from to d e f g
one_answer happens names (Some (verify v)) d e alone f g = verifies names v d e f g
one_answer happens names (Some (stamp s)) d e alone f g = absurd alone
one_answer happens names (Some (upgrade u)) d e alone f g = absurd alone
one_answer happens names (Some (sample n)) d e alone f g = samples n d e f g
one_answer happens names (Some (chain w)) d e alone f g = checks names w d e f g

pub answer_to : (o : Outside) (names : Names) (command : Option ClientCommand) (d e : Ending) → Answers (λ (x : Outside). x ≡ o) command (Some names) d
    → Answers (λ (x : Outside). x ≡ o) command (Some names) e → d ≡ e
answer_to o names None d e f g = one_answer (λ x. x ≡ o) names None d e tt f g
answer_to o names (Some (info name)) d e f g = one_answer (λ x. x ≡ o) names (Some (info name)) d e tt f g
answer_to o names (Some (canon from to)) d e f g = one_answer (λ x. x ≡ o) names (Some (canon from to)) d e tt f g
answer_to o names (Some (merge first second to)) d e f g = one_answer (λ x. x ≡ o) names (Some (merge first second to)) d e tt f g
answer_to o names (Some (prune from to)) d e f g = one_answer (λ x. x ≡ o) names (Some (prune from to)) d e tt f g
answer_to o names (Some (verify v)) d e f g = one_answer (λ x. x ≡ o) names (Some (verify v)) d e tt f g
answer_to o names (Some (stamp s)) d e (x, is, f) (y, too, g) =
    stamps o names s d e (subst (λ (z : Outside). StampsFiles z (Some names) s d) is f) (subst (λ (z : Outside). StampsFiles z (Some names) s e) too g)
answer_to o names (Some (upgrade u)) d e (x, is, f) (y, too, g) =
    upgrades o names u d e (subst (λ (z : Outside). UpgradesFile z (Some names) u d) is f) (subst (λ (z : Outside). UpgradesFile z (Some names) u e) too g)
answer_to o names (Some (sample n)) d e f g = one_answer (λ x. x ≡ o) names (Some (sample n)) d e tt f g
answer_to o names (Some (chain w)) d e f g = one_answer (λ x. x ≡ o) names (Some (chain w)) d e tt f g

pub exact : (happens : Outside → Type 0) (names : Names) (c : Option ClientCommand) (old new : Moment) (r : Status) (e : Ending) → old.shelf.names ≡ Some names → IsOffline c
    → Answers happens c (Some names) e → Runs (Answers happens c) (inputs_read c) old new r → UnlessExcused old new (status_over names e.status e.acts) r
exact happens names c old new r e told offline is h =
    here (subst (λ (z : Option Names). Ends (Comes (Answers happens c z) (StopsAt (names_in (inputs_read c)) old.shelf.opened new.shelf.opened old.faults new.faults))
    (Rose old.faults.writing new.faults.writing) (Rose old.lost new.lost) z new.shelf.names old.taken new.taken r) told h.ends) where
      here : Ends (Comes (Answers happens c (Some names)) (StopsAt (names_in (inputs_read c)) old.shelf.opened new.shelf.opened old.faults new.faults))
          (Rose old.faults.writing new.faults.writing) (Rose old.lost new.lost) (Some names) new.shelf.names old.taken new.taken r
          → UnlessExcused old new (status_over names e.status e.acts) r
      here (no_memory ran same kept) = inr (subst (Excused old new) (sym ran) tt)
      here (carried_out d (as_defined a) k) =
          subst (λ (z : Ending). UnlessExcused old new (status_over names z.status z.acts) r) (one_answer happens names c d e offline a is)
          (elim (over_names _ _ d.status d.acts names new.shelf.names old.taken new.taken r (offline_plain happens (Some names) c d offline a) k) [
            | inl same ↦ inl same
            | inr failed ↦ inr (excused old new r failed)
          ])
      here (carried_out d (not_read name stops at) k) = elim (carried_status _ _ d.status d.acts (Some names) new.shelf.names old.taken new.taken r k) [
        | inl may ↦ inr (subst (Excused old new) (sym (only_prints d r ReadFault _ at may)) (stop_rose (names_in (inputs_read c)) _ _ _ _ name stops))
        | inr failed ↦ inr (excused old new r failed)
      ]
