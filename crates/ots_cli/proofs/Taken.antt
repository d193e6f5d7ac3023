-- What a status says of the proofs that a command reads.
use Rattle.std.proofs.Common.{◌≡◌, ◌⊎◌, ℕ, true, false, List, [], ◌∷◌, Option, Some, None, inl, inr, sym, ap, subst, ◌∙◌}
use Rattle.ots_address.specs.Address.{AddressParts}
use Rattle.ots_chain.specs.declared.pins.Pin.{Pin}
use Rattle.ots_checking.specs.Chain.{ChecksChain, is_broken, pin_fails, is_whole, WithPerhapsPins, WithPins}
use Rattle.ots_checking.specs.Verified.{PrintsVerdict, VerifiesBy, VerifiesProof, VerifiesTarget, WithPerhapsTable, WithTable, WithTarget}
use Rattle.ots_cli.specs.Answer.{Answers, inputs_read}
use Rattle.ots_cli.specs.Taken.{IsProof, TakesProofs, proofs_read}
use Rattle.ots_client_endings.specs.Ending.{Ending, makes, printing}
use Rattle.ots_client_endings.specs.Outcome.{Excused}
use Rattle.ots_client_endings.specs.Outside.{Outside}
use Rattle.ots_client_endings.specs.Reading.{RefusesInput, no_file, refuses, is_given, is_refused, is_list, is_bad, WithProof}
use Rattle.ots_client_endings.specs.Runs.{Moment, Runs}
use Rattle.ots_client_endings.specs.Writing.{Writes, too_long, is_made}
use Rattle.ots_client_endings.proofs.Outcome.{MayEnd, only_prints, outcome}
use Rattle.ots_client_inputs.specs.Headers.{cut, too_many}
use Rattle.ots_client_inputs.specs.Proof.{too_big, bad_proof}
use Rattle.ots_client_inputs.specs.Target.{RefusesTarget}
use Rattle.ots_client_text.specs.Status.{verdict_status}
use Rattle.ots_client_text.specs.declared.status.Status.{Status}
use Rattle.ots_client_text.specs.declared.status.Status.TheVariants.{Done, No, Usage, BadProof, NoFile, Exists, ReadFault, WriteFault, TooBig, BadHeaders, TooFew, NonceFault, FileTooLong, BadAddress, Differs, Broken, BadPins, PinFails, OutOfMemory}
use Rattle.ots_client_words.specs.Words.{ClientCommand, HeaderFile, info, canon, merge, prune, verify, stamp, upgrade, sample, chain, Stamping}
use Rattle.ots_completing.specs.Upgrade.{WritesAsked, asked_too_long, asked_made}
use Rattle.ots_headers.specs.HeaderTable.{Table}
use Rattle.ots_ops.specs.declared.hash_op.HashOp.{HashOp}
use Rattle.ots_outside.specs.Shelf.{Names}
use Rattle.ots_rewriting.specs.Info.{PrintsInfo}
use Rattle.ots_rewriting.specs.Merged.{Merges, differ, joined}
use Rattle.ots_stamping.specs.Hashing.{WithHashes, are_hashed, one_refused}
use Rattle.ots_stamping.specs.Stamp.{Stamps, no_nonce, stamped, too_few}
use Rattle.ots_tree.specs.declared.detached.Detached.{Detached}
use Rattle.ots_upgrade.specs.declared.asking.AskedAt.{AskedAt}
use Rattle.ots_verdicts.specs.declared.verdicts.Verdict.{Verdict}
use Rattle.ots_verdicts.specs.declared.verdicts.Verdict.TheVariants.{Yes, NoDigest, NoPath}

-- the status of an ending is this one, of which it is said
of_status : (names : Names) (proofs : List (List ℕ)) (s t : Status) → s ≡ t → TakesProofs names proofs t → TakesProofs names proofs s
of_status names proofs s t is h = subst (TakesProofs names proofs) (sym is) h

-- one more proof was taken before
one_more : (names : Names) (name : List ℕ) (rest : List (List ℕ)) (s : Status) → IsProof names name → TakesProofs names rest s → TakesProofs names (name ∷ rest) s
one_more names name rest Done is h = (is, h)
one_more names name rest No is h = (is, h)
one_more names name rest (BadProof f) is h = inr (is, h)
one_more names name rest Usage is h = tt
one_more names name rest NoFile is h = tt
one_more names name rest Exists is h = (is, h)
one_more names name rest ReadFault is h = tt
one_more names name rest WriteFault is h = tt
one_more names name rest TooBig is h = inr (is, h)
one_more names name rest (BadHeaders n) is h = tt
one_more names name rest (TooFew got wanted) is h = tt
one_more names name rest NonceFault is h = tt
one_more names name rest FileTooLong is h = (is, h)
one_more names name rest (BadAddress place https) is h = tt
one_more names name rest (Differs h d k e) is g = (is, g)
one_more names name rest (Broken height fault) is h = tt
one_more names name rest (BadPins line) is h = tt
one_more names name rest (PinFails height) is h = tt
one_more names name rest OutOfMemory is h = tt

-- what one ending says
module _ (names : Names) (e : Ending) (s : Status) (may : MayEnd e s) where
  -- a refusal, or a text
  of_text : (proofs : List (List ℕ)) (t : Status) (text : List ℕ) → e ≡ printing t text → TakesProofs names proofs t → TakesProofs names proofs s
  of_text proofs t text is h = of_status names proofs s t (only_prints e s t text is may) h

  -- a proof is read first
  of_proof : (name : List ℕ) (rest : List (List ℕ)) (P : Detached → Ending → Type 0)
      → ((p : Detached) → P p e → TakesProofs names rest s) → WithProof (Some names) name P e → TakesProofs names (name ∷ rest) s
  of_proof name rest P then (is_given p (b, at, is) h) = one_more names name rest s (b, at, (p, is)) (then p h)
  of_proof name rest P then (is_refused (no_file none f)) = of_text (name ∷ rest) NoFile _ f tt
  of_proof name rest P then (is_refused (refuses t (b, at, too_big long is) f)) =
      of_text (name ∷ rest) t _ f (of_status names (name ∷ rest) t TooBig is (inl (b, at, long)))
  of_proof name rest P then (is_refused (refuses t (b, at, bad_proof k fits has is) f)) =
      of_text (name ∷ rest) t _ f (of_status names (name ∷ rest) t (BadProof k) is (inl (b, at, (fits, has))))

  -- what comes after the proofs
  of_not_made : (s ≡ Exists) ⊎ (s ≡ TooBig) → TakesProofs names [] s
  of_not_made (inl exists) = of_status names [] s Exists exists tt
  of_not_made (inr long) = of_status names [] s TooBig long tt

  made : (name bytes : List ℕ) → e ≡ record { status = Done; acts = makes name bytes ∷ [] } → MayEnd e s → TakesProofs names [] s
  made name bytes f (inl same) = of_status names [] s Done (same ∙ ap (λ (z : Ending). z.status) f) tt
  made name bytes f (inr not_made) = of_not_made not_made.1

  of_writing : (name : List ℕ) (r : Detached) → Writes name r e → TakesProofs names [] s
  of_writing name r (too_long long f) = of_text [] TooBig _ f tt
  of_writing name r (is_made is f) = made _ _ f may

  of_merging : (to : List ℕ) (p q : Detached) → Merges to p q e → TakesProofs names [] s
  of_merging to p q (differ other f) = of_text [] (Differs p.hash p.digest q.hash q.digest) _ f tt
  of_merging to p q (joined r is h) = of_writing to r h

  of_verdict : (v : Verdict) → TakesProofs names [] (verdict_status v)
  of_verdict (Yes c height time) = tt
  of_verdict NoDigest = tt
  of_verdict NoPath = tt

  of_target : (name : List ℕ) (hash : HashOp) (p : Detached) (b : Table) (l : Option Table)
      → WithTarget (Some names) name hash (PrintsVerdict p b l) e → TakesProofs names [] s
  of_target name hash p b l (is_given d has h) = of_text [] (verdict_status h.0) _ h.2 (of_verdict h.0)
  of_target name hash p b l (is_refused (no_file none f)) = of_text [] NoFile _ f tt
  of_target name hash p b l (is_refused (refuses t has f)) = of_text [] t _ f (of_status names [] t FileTooLong has.2.1 tt)

  -- headers are read before
  of_table : (file : HeaderFile) (proofs : List (List ℕ)) (P : Table → Ending → Type 0)
      → ((t : Table) → P t e → TakesProofs names proofs s) → WithTable (Some names) file P e → TakesProofs names proofs s
  of_table file proofs P then (is_given t has h) = then t h
  of_table file proofs P then (is_refused (no_file none f)) = of_text proofs NoFile _ f tt
  of_table file proofs P then (is_refused (refuses t (b, at, cut part is) f)) = of_text proofs t _ f (of_status names proofs t (BadHeaders _) is tt)
  of_table file proofs P then (is_refused (refuses t (b, at, too_many long is) f)) = of_text proofs t _ f (of_status names proofs t (BadHeaders _) is tt)

  of_perhaps_table : (file : Option HeaderFile) (proofs : List (List ℕ)) (P : Option Table → Ending → Type 0)
      → ((t : Option Table) → P t e → TakesProofs names proofs s) → WithPerhapsTable (Some names) file P e → TakesProofs names proofs s
  of_perhaps_table None proofs P then h = then None h
  of_perhaps_table (Some file) proofs P then h = of_table file proofs (λ t. P (Some t)) (λ t. then (Some t)) h

  of_pins : (name : List ℕ) (P : List Pin → Ending → Type 0) → ((pins : List Pin) → P pins e → TakesProofs names [] s) → WithPins (Some names) name P e → TakesProofs names [] s
  of_pins name P then (is_given pins has h) = then pins h
  of_pins name P then (is_refused (no_file none f)) = of_text [] NoFile _ f tt
  of_pins name P then (is_refused (refuses t has f)) = of_text [] t _ f (of_status names [] t (BadPins has.2.0) has.2.2 tt)

  of_perhaps_pins : (name : Option (List ℕ)) (P : Option (List Pin) → Ending → Type 0) → ((pins : Option (List Pin)) → P pins e → TakesProofs names [] s)
      → WithPerhapsPins (Some names) name P e → TakesProofs names [] s
  of_perhaps_pins None P then h = then None h
  of_perhaps_pins (Some name) P then h = of_pins name (λ pins. P (Some pins)) (λ pins. then (Some pins)) h

  of_chain : (t : Table) (pins : Option (List Pin)) → ChecksChain t pins e → TakesProofs names [] s
  of_chain t pins (is_broken height fault is f) = of_text [] (Broken height fault) _ f tt
  of_chain t pins (pin_fails first last tip height is fails f) = of_text [] (PinFails height) _ f tt
  of_chain t pins (is_whole first last tip is none f) = of_text [] Done _ f tt

  -- a status of an ending with several acts
  of_acts : (t : Status) → e.status ≡ t → TakesProofs names [] t → TakesProofs names [] s
  of_acts t is h = elim may [
    | inl same ↦ of_status names [] s t (same ∙ is) h
    | inr not_made ↦ of_not_made not_made.1
  ]

  of_asked : (asked : List AskedAt) (to : List ℕ) (r : Detached) → WritesAsked asked to r e → TakesProofs names [] s
  of_asked asked to r (asked_too_long long f) = of_acts TooBig (ap (λ (z : Ending). z.status) f) tt
  of_asked asked to r (asked_made true is file f) = of_acts Done (ap (λ (z : Ending). z.status) f) tt
  of_asked asked to r (asked_made false is file f) = of_acts No (ap (λ (z : Ending). z.status) f) tt

  of_stamps : (o : Outside) (least : ℕ) (files : List (List ℕ)) (calendars : List AddressParts) (digests : List (List ℕ)) → Stamps o least files calendars digests e
      → TakesProofs names [] s
  of_stamps o least files calendars digests (no_nonce failed none f) = of_text [] NonceFault _ f tt
  of_stamps o least files calendars digests (too_few targets asked few f) = of_acts (TooFew _ least) (ap (λ (z : Ending). z.status) f) tt
  of_stamps o least files calendars digests (stamped targets asked enough f) = of_acts Done (ap (λ (z : Ending). z.status) f) tt

  of_hashes : (o : Outside) (w : Stamping) (calendars : List AddressParts) → WithHashes (Some names) w.files (Stamps o w.least w.files calendars) e → TakesProofs names [] s
  of_hashes o w calendars (are_hashed digests are h) = of_stamps o w.least w.files calendars digests h
  of_hashes o w calendars (one_refused h) = of_one h.refused
    where
      of_one : {name : List ℕ} → RefusesInput (Some names) name RefusesTarget e → TakesProofs names [] s
      of_one (no_file none f) = of_text [] NoFile _ f tt
      of_one (refuses t has f) = of_text [] t _ f (of_status names [] t FileTooLong has.2.1 tt)

  pub takes : (happens : Outside → Type 0) (c : ClientCommand) → Answers happens (Some c) (Some names) e → TakesProofs names (proofs_read c) s
  takes happens (info name) h = of_proof name [] PrintsInfo (λ p printed. of_text [] Done _ printed.2 tt) h
  takes happens (canon from to) h = of_proof from [] _ (λ p result. of_writing to result.0 result.2) h
  takes happens (merge first second to) h = of_proof first (second ∷ []) _ (λ p. of_proof second [] _ (λ q. of_merging to p q)) h
  takes happens (prune from to) h = of_proof from [] _ (λ p result. of_writing to result.0 result.2) h
  takes happens (stamp w) (o, happened, is_list calendars is h) = of_hashes o w calendars h
  takes happens (stamp w) (o, happened, is_bad place https is f) = of_text [] (BadAddress place https) _ f tt
  takes happens (upgrade u) (o, happened, is_list calendars is h) = of_proof u.proof [] _ (λ p completes. of_asked completes.0 u.to completes.1 completes.3) h
  takes happens (upgrade u) (o, happened, is_bad place https is f) = of_text (u.proof ∷ []) (BadAddress place https) _ f tt
  takes happens (chain w) h = of_table w.headers [] _ (λ t. of_perhaps_pins w.pins _ (of_chain t)) h
  takes happens (sample n) h = of_text [] (verdict_status h.0.verdict) _ h.2 (of_verdict h.0.verdict)
  takes happens (verify v) h =
      of_table v.bitcoin (v.proof ∷ []) (VerifiesBy (Some names) v)
      (λ b. of_perhaps_table v.litecoin (v.proof ∷ []) (VerifiesProof (Some names) v b)
      (λ l. of_proof v.proof [] (VerifiesTarget (Some names) v.target b l) (λ p. of_target v.target p.hash p b l))) h

-- a status that is excused says nothing of them
of_excused : (names : Names) (proofs : List (List ℕ)) (old new : Moment) (s : Status) → Excused old new s → TakesProofs names proofs s
of_excused names proofs old new ReadFault h = tt
of_excused names proofs old new WriteFault h = tt
of_excused names proofs old new OutOfMemory h = tt
of_excused names proofs old new Done h = absurd h
of_excused names proofs old new No h = absurd h
of_excused names proofs old new Usage h = absurd h
of_excused names proofs old new (BadProof f) h = absurd h
of_excused names proofs old new NoFile h = absurd h
of_excused names proofs old new Exists h = absurd h
of_excused names proofs old new TooBig h = absurd h
of_excused names proofs old new (BadHeaders n) h = absurd h
of_excused names proofs old new (TooFew got wanted) h = absurd h
of_excused names proofs old new NonceFault h = absurd h
of_excused names proofs old new FileTooLong h = absurd h
of_excused names proofs old new (BadAddress place https) h = absurd h
of_excused names proofs old new (Differs a b c d) h = absurd h
of_excused names proofs old new (Broken height fault) h = absurd h
of_excused names proofs old new (BadPins line) h = absurd h
of_excused names proofs old new (PinFails height) h = absurd h

pub are_taken : (happens : Outside → Type 0) (names : Names) (c : ClientCommand) (old new : Moment) (s : Status) → old.shelf.names ≡ Some names
    → Runs (Answers happens (Some c)) (inputs_read (Some c)) old new s → TakesProofs names (proofs_read c) s
are_taken happens names c old new s told h = elim (outcome (Answers happens (Some c)) (inputs_read (Some c)) old new s h) [
  | inr excused ↦ of_excused names (proofs_read c) old new s excused
  | inl (e, a, may) ↦ takes names e s may happens c (subst (λ (z : Option Names). Answers happens (Some c) z e) told a)
]
