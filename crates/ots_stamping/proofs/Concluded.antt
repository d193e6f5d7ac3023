-- How a run ends that can do its work.
use Rattle.std.proofs.Common.{◌≡◌, ◌≤◌, inl, inr, ℕ, suc, List, [], ◌∷◌, ◌++◌, length, Option, Some, None, subst, refl, ◌∙◌, arith}
use Rattle.std.specs.Prelude.{slice_get}
use Rattle.std.specs.FinMap as map
use Rattle.ots_address.proofs.ListLemmas.{none_bad}
use Rattle.ots_base.specs.Cause.{Rose}
use Rattle.ots_client_endings.proofs.OneInput.{not_hashed}
use Rattle.ots_client_endings.specs.CarriedOut.{Ends, carried_out, no_memory}
use Rattle.ots_client_endings.specs.Ending.{Ending, prints}
use Rattle.ots_client_endings.specs.Outside.{Outside}
use Rattle.ots_client_endings.specs.Reading.{is_bad, is_list}
use Rattle.ots_client_endings.specs.Runs.{Comes, as_defined, not_read, Moment, Runs}
use Rattle.ots_client_inputs.specs.Inputs.{names_in}
use Rattle.ots_client_inputs.specs.Target.{IsHashOf}
use Rattle.ots_client_text.specs.Lines.{proof_name, wrote_text}
use Rattle.ots_client_text.specs.Refusal.{refusal_text}
use Rattle.ots_client_text.specs.declared.status.Status.{Status}
use Rattle.ots_client_text.specs.declared.status.Status.TheVariants.{Done, NonceFault, ReadFault, TooBig, TooFew}
use Rattle.ots_client_words.specs.Words.{Stamping}
use Rattle.ots_detached.specs.File.{file_of}
use Rattle.ots_inputs.specs.Opened.{StopsAt}
use Rattle.ots_inputs.specs.Under.{HasUnder}
use Rattle.ots_ops.specs.declared.hash_op.HashOp.TheVariants.{Sha256}
use Rattle.ots_outside.proofs.Names.{get-insert_other}
use Rattle.ots_outside.specs.Shelf.{Names}
use Rattle.ots_client_endings.proofs.Ended as ended
use Rattle.ots_client_endings.proofs.Ended.{Carried}
use Rattle.ots_stamping.specs.Complete as ends
use Rattle.ots_stamping.specs.Complete.{AreSubmitted, CanStamp, Concludes, excused}
use Rattle.ots_stamping.specs.Hashing.{AreHashed, are_hashed, one_refused}
use Rattle.ots_stamping.specs.Stamp.{StampsFiles, StampsFilesAs, calendars_text, inputs_stamped, no_nonce, stamp_acts, stamped, too_few}
use Rattle.ots_stamp.specs.Stamped.{good_trees}
use Rattle.ots_stamp.specs.declared.target.Target.{Target}

hashed_in : (told : Option Names) (earlier later digests : List (List ℕ)) (name : List ℕ) → AreHashed told (earlier ++ name ∷ later) digests
    → (d : List ℕ) × HasUnder told name (λ b. IsHashOf Sha256 b d)
hashed_in told [] later [] name h = absurd h
hashed_in told [] later (d ∷ ds) name h = (d, h.0)
hashed_in told (n ∷ ns) later [] name h = absurd h
hashed_in told (n ∷ ns) later (d ∷ ds) name h = hashed_in told ns later ds name h.1

module _ (happens : Outside → Type 0) (names : Names) (s : Stamping) (drawing : Type 0) (old new : Moment) (r : Status) where
  -- the files that are left, whose proofs have names that are free
  all_made : (o : Outside) (targets : List Target) → AreSubmitted happens (Some names) s o targets → s.least ≤ length (good_trees o.outcomes)
      → (files : List (List ℕ)) (i : ℕ) (now : Names) (taken : Option (List ℕ))
      → ((j : ℕ) (file : List ℕ) → slice_get files j ≡ Some file → map.get now (proof_name file) ≡ None)
      → ((j k : ℕ) (a b : List ℕ) → slice_get files j ≡ Some a → slice_get files k ≡ Some b → proof_name a ≡ proof_name b → j ≡ k)
      → Carried old new r Done (stamp_acts targets (good_trees o.outcomes) i files) (Some now) taken → Concludes (AreSubmitted happens (Some names) s) s.least drawing old new r
  all_made o targets sub enough [] i now taken absent distinct h = ends.stamped o targets sub enough h.2
  all_made o targets sub enough (f ∷ files) i now taken absent distinct (inr (inl (p, at, long, same, last))) =
      ended.last_told old new r excused TooBig (refusal_text (proof_name f) TooBig) taken (λ is. ends.too_long o targets sub i p at long is) last
  all_made o targets sub enough (f ∷ files) i now taken absent distinct (inr (inr none)) = ended.ran_short old new r excused none.2
  all_made o targets sub enough (f ∷ files) i now taken absent distinct (inl (p, at, file, h)) =
      ended.made_first old new r excused (proof_name f) (file_of p)
      (λ mid. Carried old new r Done (prints (wrote_text f) ∷ stamp_acts targets (good_trees o.outcomes) (suc i) files) mid taken) now taken (absent 0 f refl)
      (ended.told_first old new r excused Done (wrote_text f) (stamp_acts targets (good_trees o.outcomes) (suc i) files) (Some (map.insert now (proof_name f) (file_of p))) taken
      (λ mid. all_made o targets sub enough files (suc i) (map.insert now (proof_name f) (file_of p)) mid
      (λ j g is. get-insert_other now (proof_name f) (file_of p) (proof_name g)
      (λ same. let clash : suc j ≡ 0 = distinct (suc j) 0 g f is refl same in cc) ∙ absent (suc j) g is)
      (λ j k a b here there same. let next : suc j ≡ suc k = distinct (suc j) (suc k) a b here there same in omega (arith, next)))) h

  module _ (can : CanStamp names s) (drawn : (o : Outside) → happens o → o.nonces ≡ None → drawing) where
    of_files : (o : Outside) → happens o → (e : Ending) → StampsFiles o (Some names) s e → Carried old new r e.status e.acts (Some names) old.taken
        → Concludes (AreSubmitted happens (Some names) s) s.least drawing old new r
    of_files o happened e (is_bad place https bad f) h = absurd (none_bad s.calendars place https bad can.is_list.good)
    of_files o happened e (is_list calendars list (one_refused x)) h =
        let at = hashed_in (Some names) x.earlier x.later can.digests x.name (subst (λ (z : List (List ℕ)). AreHashed (Some names) z can.digests) x.split can.hashed) in
        absurd (not_hashed names x.name at.0 e at.1 x.refused)
    of_files o happened e (is_list calendars list (are_hashed digests hashed (no_nonce failed none f))) h =
        ended.told_only old new r excused NonceFault (refusal_text [] NonceFault) (Some names) old.taken (λ is. ends.not_drawn (drawn o happened failed) is)
        (subst (λ (z : Ending). Carried old new r z.status z.acts (Some names) old.taken) f h)
    of_files o happened e (is_list calendars list (are_hashed digests hashed (too_few targets asked few f))) h =
        let sub : AreSubmitted happens (Some names) s o targets = record { happened = happened; calendars = calendars; is_list = list; digests = digests; hashed = hashed; asked = asked } in
        let status = TooFew (length (good_trees o.outcomes)) s.least in
        ended.told_first old new r excused status (calendars_text calendars o.outcomes) (prints (refusal_text [] status) ∷ []) (Some names) old.taken
        (λ mid. ended.told_only old new r excused status (refusal_text [] status) (Some names) mid (λ is. ends.too_few o targets sub few is))
        (subst (λ (z : Ending). Carried old new r z.status z.acts (Some names) old.taken) f h)
    of_files o happened e (is_list calendars list (are_hashed digests hashed (stamped targets asked enough f))) h =
        let sub : AreSubmitted happens (Some names) s o targets = record { happened = happened; calendars = calendars; is_list = list; digests = digests; hashed = hashed; asked = asked } in
        ended.told_first old new r excused Done (calendars_text calendars o.outcomes) (stamp_acts targets (good_trees o.outcomes) 0 s.files) (Some names) old.taken
        (λ mid. all_made o targets sub enough s.files 0 names mid can.absent can.distinct)
        (subst (λ (z : Ending). Carried old new r z.status z.acts (Some names) old.taken) f h)

    pub concluded : old.shelf.names ≡ Some names → Runs (λ told. StampsFilesAs happens told s) (inputs_stamped s) old new r
        → Concludes (AreSubmitted happens (Some names) s) s.least drawing old new r
    concluded told h =
        here (subst (λ (z : Option Names). Ends (Comes (StampsFilesAs happens z s) (StopsAt (names_in (inputs_stamped s)) old.shelf.opened new.shelf.opened old.faults new.faults))
        (Rose old.faults.writing new.faults.writing) (Rose old.lost new.lost) z new.shelf.names old.taken new.taken r) told h.ends) where
          here : Ends (Comes (StampsFilesAs happens (Some names) s) (StopsAt (names_in (inputs_stamped s)) old.shelf.opened new.shelf.opened old.faults new.faults))
              (Rose old.faults.writing new.faults.writing) (Rose old.lost new.lost) (Some names) new.shelf.names old.taken new.taken r
              → Concludes (AreSubmitted happens (Some names) s) s.least drawing old new r
          here (no_memory ran same kept) = ended.ran_short old new r excused ran
          here (carried_out e (as_defined (o, happened, a)) k) = of_files o happened e a k
          here (carried_out e (not_read name stops is) k) =
              ended.told_only old new r excused ReadFault (refusal_text name ReadFault) (Some names) old.taken (ended.not_read old new r excused stops)
              (subst (λ (z : Ending). Carried old new r z.status z.acts (Some names) old.taken) is k)
