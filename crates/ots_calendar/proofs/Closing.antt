-- What closing a round does, by how its commitment is added.
use Rattle.std.proofs.Common.{◌≡◌, ◌≤◌, inl, inr, ℕ, List, [], ◌∷◌, ◌++◌, length, map, refl, sym, ap, subst, ◌∙◌}
use Rattle.std.specs.Prelude.{Option, Some, MatchOption, Result, Ok, Err}
use Rattle.ots_journal.specs.declared.errors.AppendError.{AppendError}
use Rattle.ots_round.specs.Round.{leaves, round_commitment}
use Rattle.ots_store.specs.Records.{CommitRecord, entry_of}
use Rattle.ots_journal.specs.declared.errors.AppendError.TheVariants.{OutOfMemory}
use Rattle.ots_store.specs.Store.{StoreTold, Adds}
use Rattle.ots_store.proofs.Adding.{adds_untouched}
use Rattle.ots_tickets.specs.declared.rounds.Ready.{Ready}
use Rattle.ots_tickets.specs.declared.settled.Settled.{Settled}
use Rattle.ots_tickets.specs.Ready.{at_index, IsReady}
use Rattle.ots_tickets.proofs.Places.{settles_index}
use Rattle.ots_calendar.specs.Book.{BookTold}
use Rattle.ots_calendar.specs.Rounds.{Closes, round_answer}

module _ {D : Type 0} (bytes : D → Option (List ℕ)) (clock : D → ℕ) (since : D → ℕ → List ℕ → Type 0) (key : List ℕ) (second : ℕ) (old new : BookTold D) (made : Ready) (o : Option Ready) (spare : ℕ)
    (found : MatchOption o (old.tickets.waiting ≡ []) (λ r. IsReady key second old.tickets.waiting r.commitment r.settled.items × (length r.settled.items ≤ spare))) (is : o ≡ Some made) where
  ready : IsReady key second old.tickets.waiting made.commitment made.settled.items
  ready = (subst (λ (x : Option Ready). MatchOption x (old.tickets.waiting ≡ []) (λ r. IsReady key second old.tickets.waiting r.commitment r.settled.items × (length r.settled.items ≤ spare))) is found).0

  adds_it : {A : Type 0} (result : Result A AppendError) → Adds bytes clock since old.store.journal new.store.journal (entry_of (CommitRecord made.commitment) ∷ []) result
      → Adds bytes clock since old.store.journal new.store.journal (entry_of (CommitRecord (round_commitment key second old.tickets.waiting)) ∷ []) result
  adds_it result adds = subst (λ (c : List ℕ). Adds bytes clock since old.store.journal new.store.journal (entry_of (CommitRecord c) ∷ []) result) ready.commitment_is adds

  pub closes_not : (added : Result ℕ AppendError) (why : AppendError) (result : Result (Option ℕ) AppendError) → Adds bytes clock since old.store.journal new.store.journal (entry_of (CommitRecord made.commitment) ∷ []) added
      → added ≡ Err why → new.tickets.waiting ≡ old.tickets.waiting → new.tickets.settled ≡ old.tickets.settled → result ≡ Err why → Closes bytes clock since key second old new result
  closes_not added why result adds was waiting settled answer = inl (record {
    some = ready.some;
    added = Err why;
    adds = adds_it (Err why) (subst (λ (r : Result ℕ AppendError). Adds bytes clock since old.store.journal new.store.journal (entry_of (CommitRecord made.commitment) ∷ []) r) was adds);
    leaves = (waiting, settled);
    answer = answer;
  })

  pub closes_all : (added : Result ℕ AppendError) (index : ℕ) → Adds bytes clock since old.store.journal new.store.journal (entry_of (CommitRecord made.commitment) ∷ []) added
      → added ≡ Ok index → new.tickets.waiting ≡ [] → new.tickets.settled ≡ old.tickets.settled ++ map (at_index index) made.settled.items → Closes bytes clock since key second old new (Ok (Some index))
  closes_all added index adds was waiting settled = inl (record {
    some = ready.some;
    added = Ok index;
    adds = adds_it (Ok index) (subst (λ (r : Result ℕ AppendError). Adds bytes clock since old.store.journal new.store.journal (entry_of (CommitRecord made.commitment) ∷ []) r) was adds);
    leaves = (
      waiting,
      settled ∙ ap (λ (l : List Settled). old.tickets.settled ++ l) (ap (map (at_index index)) ready.settled_are
          ∙ settles_index index (round_commitment key second old.tickets.waiting) (leaves old.tickets.waiting) 0 old.tickets.waiting),
    );
    answer = refl;
  })

-- memory that runs out does so before the disk is called
not_added : (added : Result ℕ AppendError) → round_answer added ≡ Err OutOfMemory → added ≡ Err OutOfMemory
not_added (Ok index) is = absurd (cc)
not_added (Err why) is = let same : why ≡ OutOfMemory = (cc) in ap (λ (e : AppendError). Err e) same

pub close_untouched : {D : Type 0} (bytes : D → Option (List ℕ)) (clock : D → ℕ) (since : D → ℕ → List ℕ → Type 0) (key : List ℕ) (second : ℕ) (old new : BookTold D) (result : Result (Option ℕ) AppendError)
    → Closes bytes clock since key second old new result → result ≡ Err OutOfMemory → new.store.journal.disk ≡ old.store.journal.disk
close_untouched bytes clock since key second old new result (inl r) is =
    adds_untouched bytes clock since old.store.journal new.store.journal (entry_of (CommitRecord (round_commitment key second old.tickets.waiting)) ∷ []) r.added r.adds (not_added r.added (sym r.answer ∙ is))
close_untouched bytes clock since key second old new result (inr (inl nothing)) is = ap (λ (s : StoreTold _). s.journal.disk) nothing.store
close_untouched bytes clock since key second old new result (inr (inr none)) is = ap (λ (s : StoreTold _). s.journal.disk) none.store
