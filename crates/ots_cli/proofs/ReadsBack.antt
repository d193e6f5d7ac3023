-- What is written reads back, and no other name changes.
use Rattle.std.proofs.Common.{◌≡◌, ℕ, zero, suc, List, [], ◌∷◌, Option, Some, None, inl, inr, refl, sym, ap, subst, ◌∙◌, ◌+◌, arith}
use Rattle.std.specs.Prelude.{slice_get}
use Rattle.std.specs.FinMap as map
use Rattle.ots_base.specs.Cause.{Rose}
use Rattle.ots_chain.specs.declared.pins.Pin.{Pin}
use Rattle.ots_checking.specs.Chain.{ChecksChain, is_broken, pin_fails, is_whole, WithPerhapsPins}
use Rattle.ots_checking.specs.Verified.{PrintsVerdict, VerifiesBy, VerifiesProof, VerifiesTarget, WithPerhapsTable, WithTable, WithTarget}
use Rattle.ots_cli.specs.Answer.{Answers, inputs_read}
use Rattle.ots_cli.specs.Asking.{IsOffline}
use Rattle.ots_cli.specs.ReadsBack.{IsOutput, IsOutputAsked, IsResultOf, ReadsBack}
use Rattle.ots_client_endings.specs.CarriedOut.{CarriesOut, Ends, carried_out, no_memory}
use Rattle.ots_client_endings.specs.Ending.{Ending, IsStampAt, makes, printing, prints}
use Rattle.ots_client_endings.specs.Outcome.{IsDoneOrNo, Leaves}
use Rattle.ots_client_endings.specs.Outside.{Outside}
use Rattle.ots_client_endings.specs.Reading.{RefusesInput, no_file, refuses, is_given, is_refused, is_list, is_bad, WithProof}
use Rattle.ots_client_endings.specs.Runs.{Comes, as_defined, not_read, Moment, Runs}
use Rattle.ots_client_endings.specs.Writing.{Writes, too_long, is_made}
use Rattle.ots_client_endings.proofs.Outcome.{EndsWith, IsPlain, MakesOnly, carried_leaves, carried_status, done_making, get_inserted, is_plain, keeps, made_done, never}
use Rattle.ots_client_inputs.specs.Proof.{RefusesProof, too_big, bad_proof}
use Rattle.ots_client_inputs.specs.Target.{RefusesTarget}
use Rattle.ots_client_inputs.specs.Inputs.{names_in}
use Rattle.ots_client_text.specs.Lines.{complete_text, proof_name, wrote_text}
use Rattle.ots_client_text.specs.Status.{complete_status, verdict_status}
use Rattle.ots_client_text.specs.declared.status.Status.{Status}
use Rattle.ots_client_text.specs.declared.status.Status.TheVariants.{Done, No, Usage, BadProof, NoFile, Exists, ReadFault, WriteFault, TooBig, TooFew, NonceFault, FileTooLong, BadAddress, Differs, Broken, PinFails, OutOfMemory}
use Rattle.ots_client_words.specs.Words.{ClientCommand, HeaderFile, info, canon, merge, prune, verify, stamp, upgrade, sample, chain}
use Rattle.ots_completing.specs.Upgrade.{WritesAsked, asked_too_long, asked_made, asked_text}
use Rattle.ots_detached.specs.File.{IsFileOf, file_of}
use Rattle.ots_headers.specs.HeaderTable.{Table}
use Rattle.ots_inputs.specs.Opened.{StopsAt}
use Rattle.ots_ops.specs.declared.hash_op.HashOp.{HashOp}
use Rattle.ots_outside.specs.Shelf.{Names}
use Rattle.ots_rewriting.specs.Merged.{Merges, differ, joined}
use Rattle.ots_stamp.specs.Stamped.{good_trees}
use Rattle.ots_stamp.specs.declared.target.Target.{Target}
use Rattle.ots_stamping.specs.Hashing.{are_hashed, one_refused}
use Rattle.ots_stamping.specs.Stamp.{Stamps, calendars_text, no_nonce, stamp_acts, stamped, too_few}
use Rattle.ots_tree.specs.declared.detached.Detached.{Detached}
use Rattle.ots_tree.specs.declared.token.Token.{Token}
use Rattle.ots_upgrade.specs.declared.asking.AskedAt.{AskedAt}

-- ---- the proofs of stamped files

-- the proof of the file at this place
abbrev HasStamp : List Target → List (List Token) → ℕ → List ℕ → Option Names → Type 0
HasStamp targets trees i file new = (p : Detached) × IsStampAt targets trees i p × IsFileOf (file_of p) p × EndsWith new (proof_name file) (file_of p)

-- the proof of the first file, or that of one after it
after_stamp : (writing lost : Type 0) (s : Status) (targets : List Target) (trees : List (List Token)) (f : List ℕ) (files : List (List ℕ)) (i j : ℕ) (file : List ℕ) (names : Names)
    (new : Option Names) (taken now : Option (List ℕ)) (r : Status) (p : Detached) → IsDoneOrNo r → slice_get (f ∷ files) j ≡ Some file → IsStampAt targets trees i p
    → IsFileOf (file_of p) p
    → ((k : ℕ) (mid : Option (List ℕ)) → slice_get files k ≡ Some file
    → CarriesOut writing lost s (stamp_acts targets trees (suc i) files) (Some (map.insert names (proof_name f) (file_of p))) new mid now r → HasStamp targets trees (suc i + k) file new)
    → CarriesOut writing lost s (prints (wrote_text f) ∷ stamp_acts targets trees (suc i) files) (Some (map.insert names (proof_name f) (file_of p))) new taken now r
    → HasStamp targets trees (i + j) file new
after_stamp writing lost s targets trees f files i j file names new taken now r p done at stamped_at is rest (inr prefix) =
    absurd (never r WriteFault prefix.3 (λ clash. cc) (λ clash. cc) done)
after_stamp writing lost s targets trees f files i zero file names new taken now r p done at stamped_at is rest (inl (mid, told, k)) =
    let this : f ≡ file = cc in
    let here : i ≡ i + 0 = omega arith in (
      p,
      subst (λ (z : ℕ). IsStampAt targets trees z p) here stamped_at,
      is,
      subst (λ (z : List ℕ). EndsWith new (proof_name z) (file_of p)) this
          (keeps writing lost s (stamp_acts targets trees (suc i) files) (map.insert names (proof_name f) (file_of p)) (proof_name f) (file_of p) new mid now r done (get_inserted names (proof_name f) (file_of p)) k),
    )
after_stamp writing lost s targets trees f files i (suc j) file names new taken now r p done at stamped_at is rest (inl (mid, told, k)) =
    let next : suc i + j ≡ i + suc j = omega arith in
    subst (λ (z : ℕ). HasStamp targets trees z file new) next (rest j mid at k)

stamps_done : (writing lost : Type 0) (s : Status) (targets : List Target) (trees : List (List Token)) (files : List (List ℕ)) (i j : ℕ) (file : List ℕ) (names : Names)
    (new : Option Names) (taken now : Option (List ℕ)) (r : Status) → IsDoneOrNo r → slice_get files j ≡ Some file
    → CarriesOut writing lost s (stamp_acts targets trees i files) (Some names) new taken now r → HasStamp targets trees (i + j) file new
stamps_done writing lost s targets trees [] i j file names new taken now r done at h = absurd (let clash : None ≡ Some file = at in cc)
stamps_done writing lost s targets trees (f ∷ files) i j file names new taken now r done at (inr (inl (p, stamped_at, long, same, inl last))) =
    absurd (never r TooBig last.1 (λ clash. cc) (λ clash. cc) done)
stamps_done writing lost s targets trees (f ∷ files) i j file names new taken now r done at (inr (inl (p, stamped_at, long, same, inr last))) =
    absurd (never r WriteFault last.2 (λ clash. cc) (λ clash. cc) done)
stamps_done writing lost s targets trees (f ∷ files) i j file names new taken now r done at (inr (inr none)) =
    absurd (never r OutOfMemory none.2 (λ clash. cc) (λ clash. cc) done)
stamps_done writing lost s targets trees (f ∷ files) i j file names new taken now r done at (inl (p, stamped_at, is, h)) =
    made_done writing lost names (proof_name f) (file_of p)
    (λ mid. CarriesOut writing lost s (prints (wrote_text f) ∷ stamp_acts targets trees (suc i) files) mid new taken now r) (HasStamp targets trees (i + j) file new) new taken now r done
    (λ absent. after_stamp writing lost s targets trees f files i j file names new taken now r p done at stamped_at is
    (λ k mid. stamps_done writing lost s targets trees files (suc i) k file (map.insert names (proof_name f) (file_of p)) new mid now r done)) h

-- ---- an ending that was carried out with Done

module _ (writing lost : Type 0) (names : Names) (new : Option Names) (taken now : Option (List ℕ)) (r : Status) (done : IsDoneOrNo r) where
  -- it was not one of another status
  not_done : (e : Ending) (t : Status) → e.status ≡ t → (t ≡ Done → ⊥) → (t ≡ No → ⊥) → CarriesOut writing lost e.status e.acts (Some names) new taken now r → ⊥
  not_done e t is other too h = elim (carried_status writing lost e.status e.acts (Some names) new taken now r h) [
    | inl (inl same) ↦ never r t (same ∙ is) other too done
    | inl (inr (some, inl exists)) ↦ never r Exists exists (λ clash. cc) (λ clash. cc) done
    | inl (inr (some, inr long)) ↦ never r TooBig long (λ clash. cc) (λ clash. cc) done
    | inr (inl (fault, is_fault)) ↦ never r WriteFault is_fault (λ clash. cc) (λ clash. cc) done
    | inr (inr ran) ↦ never r OutOfMemory ran (λ clash. cc) (λ clash. cc) done
  ]

  -- it was not one that only prints another status
  not_text : (e : Ending) (t : Status) (text : List ℕ) → e ≡ printing t text → (t ≡ Done → ⊥) → (t ≡ No → ⊥)
      → CarriesOut writing lost e.status e.acts (Some names) new taken now r → ⊥
  not_text e t text is other too h = not_done e t (ap (λ (z : Ending). z.status) is) other too h

  not_refused : (name : List ℕ) (e : Ending) → RefusesInput (Some names) name RefusesProof e → CarriesOut writing lost e.status e.acts (Some names) new taken now r → ⊥
  not_refused name e (no_file none f) h = not_text e NoFile _ f (λ clash. cc) (λ clash. cc) h
  not_refused name e (refuses s (b, at, too_big long is) f) h =
      not_text e s _ f (λ same. let clash : TooBig ≡ Done = sym is ∙ same in cc) (λ same. let clash : TooBig ≡ No = sym is ∙ same in cc) h
  not_refused name e (refuses s (b, at, bad_proof k fits has is) f) h =
      not_text e s _ f (λ same. let clash : BadProof k ≡ Done = sym is ∙ same in cc) (λ same. let clash : BadProof k ≡ No = sym is ∙ same in cc) h

  not_hashed : (name : List ℕ) (e : Ending) → RefusesInput (Some names) name RefusesTarget e → CarriesOut writing lost e.status e.acts (Some names) new taken now r → ⊥
  not_hashed name e (no_file none f) h = not_text e NoFile _ f (λ clash. cc) (λ clash. cc) h
  not_hashed name e (refuses s (b, at, long) f) h =
      not_text e s _ f (λ same. let clash : FileTooLong ≡ Done = sym long.1 ∙ same in cc) (λ same. let clash : FileTooLong ≡ No = sym long.1 ∙ same in cc) h

  stamps_written : (targets : List Target) (trees : List (List Token)) (files : List (List ℕ)) (i : ℕ) (file text : List ℕ) → slice_get files i ≡ Some file
      → CarriesOut writing lost Done (prints text ∷ stamp_acts targets trees 0 files) (Some names) new taken now r → HasStamp targets trees i file new
  stamps_written targets trees files i file text at (inl (mid, whole, h)) =
      let this : 0 + i ≡ i = omega arith in
      subst (λ (z : ℕ). HasStamp targets trees z file new) this (stamps_done writing lost Done targets trees files 0 i file names new mid now r done at h)
  stamps_written targets trees files i file text at (inr prefix) = absurd (never r WriteFault prefix.3 (λ clash. cc) (λ clash. cc) done)

  written : (to : List ℕ) (p : Detached) (e : Ending) → Writes to p e → CarriesOut writing lost e.status e.acts (Some names) new taken now r
      → (bytes : List ℕ) × (new ≡ Some (map.insert names to bytes)) × IsFileOf bytes p
  written to p e (too_long long f) h = absurd (not_text e TooBig _ f (λ clash. cc) (λ clash. cc) h)
  written to p e (is_made is f) h = (
    file_of p,
    done_making writing lost Done to (file_of p) [] names new taken now r tt done
        (subst (λ (z : Ending). CarriesOut writing lost z.status z.acts (Some names) new taken now r) f h),
    is,
  )

  written_asked : (asked : List AskedAt) (to : List ℕ) (p : Detached) (e : Ending) → WritesAsked asked to p e
      → CarriesOut writing lost e.status e.acts (Some names) new taken now r → (bytes : List ℕ) × (new ≡ Some (map.insert names to bytes)) × IsFileOf bytes p
  written_asked asked to p e (asked_too_long long f) h = absurd (not_done e TooBig (ap (λ (z : Ending). z.status) f) (λ clash. cc) (λ clash. cc) h)
  written_asked asked to p e (asked_made complete is file f) h = (
    file_of p,
    after_text (asked_text asked) to (file_of p) (complete_text complete) (complete_status complete)
        (subst (λ (z : Ending). CarriesOut writing lost z.status z.acts (Some names) new taken now r) f h),
    file,
  ) where
    after_text : (first to bytes last : List ℕ) (s : Status) → CarriesOut writing lost s (prints first ∷ makes to bytes ∷ prints last ∷ []) (Some names) new taken now r
        → new ≡ Some (map.insert names to bytes)
    after_text first to bytes last s (inl (mid, whole, then)) = done_making writing lost s to bytes (prints last ∷ []) names new mid now r tt done then
    after_text first to bytes last s (inr prefix) = absurd (never r WriteFault prefix.3 (λ clash. cc) (λ clash. cc) done)

  under_output : (a b bytes : List ℕ) → a ≡ b → new ≡ Some (map.insert names a bytes) → EndsWith new b bytes
  under_output a b bytes same h = subst (λ (z : List ℕ). EndsWith new z bytes) same (map.insert names a bytes, h, get_inserted names a bytes)

  -- under an output is the file of the result
  back : (happens : Outside → Type 0) (c : ClientCommand) (to bytes : List ℕ) (r : Detached) → EndsWith new to bytes → IsFileOf bytes r
      → IsResultOf happens names c to r → ReadsBack happens names c to new
  back happens c to bytes r ends file is = (ends.0, ends.1, bytes, ends.2, r, file, is)

  pub result : (happens : Outside → Type 0) (c : ClientCommand) (to : List ℕ) (e : Ending) → IsOutput c to → Answers happens (Some c) (Some names) e
      → CarriesOut writing lost e.status e.acts (Some names) new taken now r → ReadsBack happens names c to new
  result happens (info name) to e out a h = absurd out
  result happens (verify v) to e out a h = absurd out
  result happens (sample n) to e out a h = absurd out
  result happens (chain w) to e out a h = absurd out
  result happens (canon from w) to e out (is_refused a) h = absurd (not_refused from e a h)
  result happens (canon from w) to e out (is_given p (b, at, is) (q, made, writes)) h =
      let x = written w q e writes h in back happens (canon from w) to x.0 q (under_output w to x.0 out x.1) x.2 (b, at, (p, is, made))
  result happens (prune from w) to e out (is_refused a) h = absurd (not_refused from e a h)
  result happens (prune from w) to e out (is_given p (b, at, is) (q, made, writes)) h =
      let x = written w q e writes h in back happens (prune from w) to x.0 q (under_output w to x.0 out x.1) x.2 (b, at, (p, is, made))
  result happens (merge first second w) to e out (is_refused a) h = absurd (not_refused first e a h)
  result happens (merge first second w) to e out (is_given p (b, at, is) (is_refused a)) h = absurd (not_refused second e a h)
  result happens (merge first second w) to e out (is_given p (b, at, is) (is_given q (d, too, are) (differ other f))) h =
      absurd (not_text e (Differs p.hash p.digest q.hash q.digest) _ f (λ clash. cc) (λ clash. cc) h)
  result happens (merge first second w) to e out (is_given p (b, at, is) (is_given q (d, too, are) (joined m made writes))) h =
      let x = written w m e writes h in back happens (merge first second w) to x.0 m (under_output w to x.0 out x.1) x.2 (b, at, (p, is, (d, too, (q, are, made))))
  result happens (upgrade u) to e out (o, heard, is_bad place https bad f) h =
      absurd (not_text e (BadAddress place https) _ f (λ clash. cc) (λ clash. cc) h)
  result happens (upgrade u) to e out (o, heard, is_list calendars is (is_refused a)) h = absurd (not_refused u.proof e a h)
  result happens (upgrade u) to e out (o, heard, is_list calendars is (is_given p (b, at, file) (asked, m, made, writes))) h =
      let x = written_asked asked u.to m e writes h in
      back happens (upgrade u) to x.0 m (under_output u.to to x.0 out x.1) x.2 (record {
        outside = o;
        happened = heard;
        calendars = calendars;
        is_list = is;
        proof = p;
        has_proof = (b, at, file);
        asked = asked;
        is_upgrade = made;
      })
  result happens (stamp w) to e out (o, heard, is_bad place https bad f) h =
      absurd (not_text e (BadAddress place https) _ f (λ clash. cc) (λ clash. cc) h)
  result happens (stamp w) to e out (o, heard, is_list calendars is (one_refused a)) h = absurd (not_hashed a.name e a.refused h)
  result happens (stamp w) to e out (o, heard, is_list calendars is (are_hashed digests hashed (no_nonce failed none f))) h =
      absurd (not_text e NonceFault _ f (λ clash. cc) (λ clash. cc) h)
  result happens (stamp w) to e out (o, heard, is_list calendars is (are_hashed digests hashed (too_few targets asked few f))) h =
      absurd (not_done e (TooFew _ w.least) (ap (λ (z : Ending). z.status) f) (λ clash. cc) (λ clash. cc) h)
  result happens (stamp w) to e (i, file, at, named) (o, heard, is_list calendars is (are_hashed digests hashed (stamped targets asked enough f))) h =
      let x = stamps_written targets (good_trees o.outcomes) w.files i file (calendars_text calendars o.outcomes) at (subst (λ (z : Ending). CarriesOut writing lost z.status z.acts (Some names) new taken now r) f h) in
      back happens (stamp w) to (file_of x.0) x.0 (subst (λ (z : List ℕ). EndsWith new z (file_of x.0)) named x.3) x.2 (
        o,
        heard,
        record {
          calendars = calendars;
          is_list = is;
          digests = digests;
          hashed = hashed;
          targets = targets;
          asked = asked;
          enough = enough;
          i = i;
          file = file;
          is_file = at;
          is_name = named;
          is_stamp = x.1;
        },
      )

pub reads_back : (happens : Outside → Type 0) (names : Names) (c : ClientCommand) (to : List ℕ) → IsOutput c to → (old new : Moment) (r : Status) → old.shelf.names ≡ Some names → IsDoneOrNo r
    → Runs (Answers happens (Some c)) (inputs_read (Some c)) old new r → ReadsBack happens names c to new.shelf.names
reads_back happens names c to out old new r told done h =
    here (subst (λ (z : Option Names). Ends (Comes (Answers happens (Some c) z) (StopsAt (names_in (inputs_read (Some c))) old.shelf.opened new.shelf.opened old.faults new.faults))
    (Rose old.faults.writing new.faults.writing) (Rose old.lost new.lost) z new.shelf.names old.taken new.taken r) told h.ends) where
      here : {stops_at : List ℕ → Type 0} {writing lost : Type 0} → Ends (Comes (Answers happens (Some c) (Some names)) stops_at) writing lost (Some names) new.shelf.names old.taken new.taken r
          → ReadsBack happens names c to new.shelf.names
      here (no_memory ran same kept) = absurd (never r OutOfMemory ran (λ clash. cc) (λ clash. cc) done)
      here {writing = writing} {lost = lost} (carried_out e (as_defined a) k) = result writing lost names new.shelf.names old.taken new.taken r done happens c to e out a k
      here {writing = writing} {lost = lost} (carried_out e (not_read name stops is) k) =
          absurd (not_text writing lost names new.shelf.names old.taken new.taken r done e ReadFault _ is (λ clash. cc) (λ clash. cc) k)

-- ---- which names are made

module _ (out stamps : List ℕ → Type 0) where
  only_text : (e : Ending) (t : Status) (text : List ℕ) → e ≡ printing t text → MakesOnly out stamps e.acts
  only_text e t text is = subst (λ (z : Ending). MakesOnly out stamps z.acts) (sym is) tt

  only_refused : {told : Option Names} {name : List ℕ} {Refuses : List ℕ → Status → Type 0} (e : Ending) → RefusesInput told name Refuses e → MakesOnly out stamps e.acts
  only_refused e (no_file none f) = only_text e NoFile _ f
  only_refused e (refuses s has f) = only_text e s _ f

  only_written : (to : List ℕ) (p : Detached) (e : Ending) → out to → Writes to p e → MakesOnly out stamps e.acts
  only_written to p e is (too_long long f) = only_text e TooBig _ f
  only_written to p e is (is_made file f) = subst (λ (z : Ending). MakesOnly out stamps z.acts) (sym f) (is, tt)

  only_asked : (asked : List AskedAt) (to : List ℕ) (p : Detached) (e : Ending) → out to → WritesAsked asked to p e → MakesOnly out stamps e.acts
  only_asked asked to p e is (asked_too_long long f) = subst (λ (z : Ending). MakesOnly out stamps z.acts) (sym f) tt
  only_asked asked to p e is (asked_made complete bitcoin file f) = subst (λ (z : Ending). MakesOnly out stamps z.acts) (sym f) (is, tt)

  only_merged : (to : List ℕ) (p q : Detached) (e : Ending) → out to → Merges to p q e → MakesOnly out stamps e.acts
  only_merged to p q e is (differ other f) = only_text e (Differs p.hash p.digest q.hash q.digest) _ f
  only_merged to p q e is (joined m made writes) = only_written to m e is writes

  only_proof : (told : Option Names) (name : List ℕ) (P : Detached → Ending → Type 0) (e : Ending) → ((p : Detached) → P p e → MakesOnly out stamps e.acts)
      → WithProof told name P e → MakesOnly out stamps e.acts
  only_proof told name P e f (is_given p has h) = f p h
  only_proof told name P e f (is_refused a) = only_refused e a

  only_table : (told : Option Names) (file : HeaderFile) (P : Table → Ending → Type 0) (e : Ending) → ((t : Table) → P t e → MakesOnly out stamps e.acts)
      → WithTable told file P e → MakesOnly out stamps e.acts
  only_table told file P e f (is_given t has h) = f t h
  only_table told file P e f (is_refused a) = only_refused e a

  only_perhaps : (told : Option Names) (file : Option HeaderFile) (P : Option Table → Ending → Type 0) (e : Ending) → ((t : Option Table) → P t e → MakesOnly out stamps e.acts)
      → WithPerhapsTable told file P e → MakesOnly out stamps e.acts
  only_perhaps told None P e f h = f None h
  only_perhaps told (Some file) P e f h = only_table told file (λ t. P (Some t)) e (λ t. f (Some t)) h

  only_target : (told : Option Names) (name : List ℕ) (hash : HashOp) (p : Detached) (b : Table) (l : Option Table) (e : Ending)
      → WithTarget told name hash (PrintsVerdict p b l) e → MakesOnly out stamps e.acts
  only_target told name hash p b l e (is_given d has h) = only_text e _ _ h.2
  only_target told name hash p b l e (is_refused a) = only_refused e a

-- the names under which proofs of stamped files are made
abbrev IsStampAsked : Option ClientCommand → List ℕ → Type 0
IsStampAsked None name = ⊥
IsStampAsked (Some (info proof)) name = ⊥
IsStampAsked (Some (canon from to)) name = ⊥
IsStampAsked (Some (merge first second to)) name = ⊥
IsStampAsked (Some (prune from to)) name = ⊥
IsStampAsked (Some (verify v)) name = ⊥
IsStampAsked (Some (stamp s)) name = IsOutput (stamp s) name
IsStampAsked (Some (upgrade u)) name = ⊥
IsStampAsked (Some (sample n)) name = ⊥
IsStampAsked (Some (chain w)) name = ⊥

none_stamped : (c : Option ClientCommand) → IsOffline c → (name : List ℕ) → IsStampAsked c name → ⊥
none_stamped None offline name h = h
none_stamped (Some (info proof)) offline name h = h
none_stamped (Some (canon from to)) offline name h = h
none_stamped (Some (merge first second to)) offline name h = h
none_stamped (Some (prune from to)) offline name h = h
none_stamped (Some (verify v)) offline name h = h
none_stamped (Some (stamp s)) offline name h = offline
none_stamped (Some (upgrade u)) offline name h = h
none_stamped (Some (sample n)) offline name h = h
none_stamped (Some (chain w)) offline name h = h

-- the proofs of the files from the i-th on
only_stamps : (P : List ℕ → Type 0) (targets : List Target) (trees : List (List Token)) (i : ℕ) (files : List (List ℕ))
    → ((j : ℕ) (file : List ℕ) → slice_get files j ≡ Some file → P (proof_name file)) → MakesOnly P P (stamp_acts targets trees i files)
only_stamps P targets trees i [] each = tt
only_stamps P targets trees i (file ∷ files) each =
    (each 0 file refl, each 0 file refl, only_stamps P targets trees (suc i) files (λ j f at. each (suc j) f at))

abbrev none : List ℕ → Type 0
none name = ⊥

only_perhaps_pins : (told : Option Names) (name : Option (List ℕ)) (P : Option (List Pin) → Ending → Type 0) (e : Ending)
    → ((pins : Option (List Pin)) → P pins e → MakesOnly none none e.acts) → WithPerhapsPins told name P e → MakesOnly none none e.acts
only_perhaps_pins told None P e then h = then None h
only_perhaps_pins told (Some name) P e then (is_given pins has h) = then (Some pins) h
only_perhaps_pins told (Some name) P e then (is_refused h) = only_refused none none e h

only_chain : (t : Table) (pins : Option (List Pin)) (e : Ending) → ChecksChain t pins e → MakesOnly none none e.acts
only_chain t pins e (is_broken height fault is f) = only_text none none e (Broken height fault) _ f
only_chain t pins e (pin_fails first last tip height is fails f) = only_text none none e (PinFails height) _ f
only_chain t pins e (is_whole first last tip is all f) = only_text none none e Done _ f

makes_only : (happens : Outside → Type 0) (told : Option Names) (c : Option ClientCommand) (e : Ending) → Answers happens c told e → MakesOnly (IsOutputAsked c) (IsStampAsked c) e.acts
makes_only happens told None e a = only_text none none e Usage _ a
makes_only happens told (Some (info name)) e a = only_proof none none told name _ e (λ p printed. only_text none none e Done _ printed.2) a
makes_only happens told (Some (canon from to)) e a = only_proof (λ name. to ≡ name) none told from _ e (λ p made. only_written (λ name. to ≡ name) none to made.0 e refl made.2) a
makes_only happens told (Some (merge first second to)) e a =
    only_proof (λ name. to ≡ name) none told first _ e (λ p. only_proof (λ name. to ≡ name) none told second _ e (λ q. only_merged (λ name. to ≡ name) none to p q e refl)) a
makes_only happens told (Some (prune from to)) e a = only_proof (λ name. to ≡ name) none told from _ e (λ p made. only_written (λ name. to ≡ name) none to made.0 e refl made.2) a
makes_only happens told (Some (verify v)) e a =
    only_table none none told v.bitcoin (VerifiesBy told v) e
    (λ b. only_perhaps none none told v.litecoin (VerifiesProof told v b) e
    (λ l. only_proof none none told v.proof (VerifiesTarget told v.target b l) e (λ p. only_target none none told v.target p.hash p b l e))) a
makes_only happens told (Some (sample n)) e a = only_text none none e (verdict_status a.0.verdict) _ a.2
makes_only happens told (Some (chain w)) e a = only_table none none told w.headers _ e (λ t. only_perhaps_pins told w.pins _ e (λ pins. only_chain t pins e)) a
makes_only happens told (Some (upgrade u)) e (o, heard, is_bad place https bad f) = only_text (λ name. u.to ≡ name) none e (BadAddress place https) _ f
makes_only happens told (Some (upgrade u)) e (o, heard, is_list calendars is a) =
    only_proof (λ name. u.to ≡ name) none told u.proof _ e (λ p made. only_asked (λ name. u.to ≡ name) none made.0 u.to made.1 e refl made.3) a
makes_only happens told (Some (stamp s)) e (o, heard, is_bad place https bad f) = only_text (IsOutput (stamp s)) (IsOutput (stamp s)) e (BadAddress place https) _ f
makes_only happens told (Some (stamp s)) e (o, heard, is_list calendars is (one_refused h)) = only_refused (IsOutput (stamp s)) (IsOutput (stamp s)) e h.refused
makes_only happens told (Some (stamp s)) e (o, heard, is_list calendars is (are_hashed digests hashed h)) = of_stamps h
  where
    of_stamps : Stamps o s.least s.files calendars digests e → MakesOnly (IsOutput (stamp s)) (IsOutput (stamp s)) e.acts
    of_stamps (no_nonce failed nobody f) = only_text (IsOutput (stamp s)) (IsOutput (stamp s)) e NonceFault _ f
    of_stamps (too_few targets asked few f) = subst (λ (z : Ending). MakesOnly (IsOutput (stamp s)) (IsOutput (stamp s)) z.acts) (sym f) tt
    of_stamps (stamped targets asked enough f) = subst (λ (z : Ending). MakesOnly (IsOutput (stamp s)) (IsOutput (stamp s)) z.acts) (sym f)
        (only_stamps (IsOutput (stamp s)) targets (good_trees o.outcomes) 0 s.files (λ j file at. (j, file, at, refl)))

pub offline_plain : (happens : Outside → Type 0) (told : Option Names) (c : Option ClientCommand) (e : Ending) → IsOffline c → Answers happens c told e → IsPlain e.acts
offline_plain happens told c e offline a = is_plain (IsOutputAsked c) (IsStampAsked c) (none_stamped c offline) e.acts (makes_only happens told c e a)

pub leaves_others : (happens : Outside → Type 0) (names : Names) (c : Option ClientCommand) (old new : Moment) (r : Status) → old.shelf.names ≡ Some names
    → Runs (Answers happens c) (inputs_read c) old new r → Leaves names (IsOutputAsked c) new.shelf.names
leaves_others happens names c old new r told h =
    here (subst (λ (z : Option Names). Ends (Comes (Answers happens c z) (StopsAt (names_in (inputs_read c)) old.shelf.opened new.shelf.opened old.faults new.faults))
    (Rose old.faults.writing new.faults.writing) (Rose old.lost new.lost) z new.shelf.names old.taken new.taken r) told h.ends) where
      here : {stops_at : List ℕ → Type 0} {writing lost : Type 0} → Ends (Comes (Answers happens c (Some names)) stops_at) writing lost (Some names) new.shelf.names old.taken new.taken r
          → Leaves names (IsOutputAsked c) new.shelf.names
      here (no_memory ran same kept) = (names, same, λ name other. refl)
      here {writing = writing} {lost = lost} (carried_out e (as_defined a) k) =
          carried_leaves writing lost e.status e.acts names (IsOutputAsked c) (IsStampAsked c) new.shelf.names old.taken new.taken r (makes_only happens (Some names) c e a) k
      here {writing = writing} {lost = lost} (carried_out e (not_read name stops is) k) =
          carried_leaves writing lost e.status e.acts names (IsOutputAsked c) none new.shelf.names old.taken new.taken r (only_text (IsOutputAsked c) none e ReadFault _ is) k
