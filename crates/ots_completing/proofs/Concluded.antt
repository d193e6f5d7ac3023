-- How a run ends that can do its work.
use Rattle.std.proofs.Common.{◌≡◌, List, [], ◌∷◌, Option, Some, subst}
use Rattle.std.specs.FinMap as map
use Rattle.ots_address.proofs.ListLemmas.{none_bad}
use Rattle.ots_base.specs.Cause.{Rose}
use Rattle.ots_client_endings.proofs.OneInput.{not_a_proof}
use Rattle.ots_client_endings.specs.CarriedOut.{Ends, carried_out, no_memory}
use Rattle.ots_client_endings.specs.Ending.{Ending, makes, prints}
use Rattle.ots_client_endings.specs.Outside.{Outside}
use Rattle.ots_client_endings.specs.Reading.{is_bad, is_given, is_list, is_refused}
use Rattle.ots_client_endings.specs.Runs.{Comes, as_defined, not_read, Moment, Runs}
use Rattle.ots_client_inputs.specs.Inputs.{names_in}
use Rattle.ots_client_text.specs.Lines.{complete_text}
use Rattle.ots_client_text.specs.Refusal.{refusal_text}
use Rattle.ots_client_text.specs.Status.{complete_status}
use Rattle.ots_client_text.specs.declared.status.Status.{Status}
use Rattle.ots_client_text.specs.declared.status.Status.TheVariants.{ReadFault, TooBig}
use Rattle.ots_client_words.specs.Words.{Upgrading}
use Rattle.ots_client_endings.proofs.Ended as ended
use Rattle.ots_client_endings.proofs.Ended.{Carried}
use Rattle.ots_completing.specs.Complete.{CanUpgrade, Concludes, IsResult, excused, made, too_long}
use Rattle.ots_completing.specs.Upgrade.{Upgrades, UpgradesFile, WritesAsked, asked_made, asked_text, asked_too_long, inputs_upgraded}
use Rattle.ots_detached.specs.File.{file_of}
use Rattle.ots_inputs.specs.Opened.{StopsAt}
use Rattle.ots_outside.specs.Shelf.{Names}
use Rattle.ots_tree.specs.declared.detached.Detached.{Detached}
use Rattle.ots_upgrade.specs.declared.asking.AskedAt.{AskedAt}

module _ (happens : Outside → Type 0) (names : Names) (u : Upgrading) (can : CanUpgrade names u) (old new : Moment) (r : Status) where
  of_result : (m : Detached) → IsResult happens (Some names) u m → (asked : List AskedAt) (e : Ending) → WritesAsked asked u.to m e
      → Carried old new r e.status e.acts (Some names) old.taken → Concludes (IsResult happens (Some names) u) old new r
  of_result m result asked e (asked_too_long long f) h =
      ended.told_first old new r excused TooBig (asked_text asked) (prints (refusal_text u.to TooBig) ∷ []) (Some names) old.taken
      (λ mid. ended.told_only old new r excused TooBig (refusal_text u.to TooBig) (Some names) mid (λ is. too_long m result long is))
      (subst (λ (z : Ending). Carried old new r z.status z.acts (Some names) old.taken) f h)
  of_result m result asked e (asked_made complete bitcoin file f) h =
      ended.told_first old new r excused (complete_status complete) (asked_text asked) (makes u.to (file_of m) ∷ prints (complete_text complete) ∷ []) (Some names) old.taken
      (λ mid. ended.made_first old new r excused u.to (file_of m) (λ z. Carried old new r (complete_status complete) (prints (complete_text complete) ∷ []) z mid) names mid can.absent
      (ended.told_only old new r excused (complete_status complete) (complete_text complete) (Some (map.insert names u.to (file_of m))) mid (λ is. made m result complete bitcoin is)))
      (subst (λ (z : Ending). Carried old new r z.status z.acts (Some names) old.taken) f h)

  of_file : (o : Outside) → happens o → (e : Ending) → UpgradesFile o (Some names) u e → Carried old new r e.status e.acts (Some names) old.taken
      → Concludes (IsResult happens (Some names) u) old new r
  of_file o happened e (is_bad place https bad f) h = absurd (none_bad u.calendars place https bad can.is_list.good)
  of_file o happened e (is_list calendars list (is_refused x)) h = absurd (not_a_proof names u.proof can.proof e can.has_proof x)
  of_file o happened e (is_list calendars list (is_given p has (asked, m, upgrade, writes))) h = of_result m (record {
    outside = o;
    happened = happened;
    calendars = calendars;
    is_list = list;
    proof = p;
    has_proof = has;
    asked = asked;
    is_upgrade = upgrade;
  }) asked e writes h

  pub concluded : old.shelf.names ≡ Some names → Runs (λ told. Upgrades happens told u) (inputs_upgraded u) old new r → Concludes (IsResult happens (Some names) u) old new r
  concluded told h =
      here (subst (λ (z : Option Names). Ends (Comes (Upgrades happens z u) (StopsAt (names_in (inputs_upgraded u)) old.shelf.opened new.shelf.opened old.faults new.faults))
      (Rose old.faults.writing new.faults.writing) (Rose old.lost new.lost) z new.shelf.names old.taken new.taken r) told h.ends) where
        here : Ends (Comes (Upgrades happens (Some names) u) (StopsAt (names_in (inputs_upgraded u)) old.shelf.opened new.shelf.opened old.faults new.faults))
            (Rose old.faults.writing new.faults.writing) (Rose old.lost new.lost) (Some names) new.shelf.names old.taken new.taken r
            → Concludes (IsResult happens (Some names) u) old new r
        here (no_memory ran same kept) = ended.ran_short old new r excused ran
        here (carried_out e (as_defined (o, happened, a)) k) = of_file o happened e a k
        here (carried_out e (not_read name stops is) k) =
            ended.told_only old new r excused ReadFault (refusal_text name ReadFault) (Some names) old.taken (ended.not_read old new r excused stops)
            (subst (λ (z : Ending). Carried old new r z.status z.acts (Some names) old.taken) is k)
