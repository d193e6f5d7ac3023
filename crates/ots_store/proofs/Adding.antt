-- What a store keeps where a group is added.
use Rattle.std.proofs.Common.{◌≡◌, ◌<◌, ◌≤◌, ◌^◌, inl, inr, ℕ, ◌+◌, Bool, true, false, List, [], ◌∷◌, ◌++◌, length, refl, sym, ◌∙◌, ap, subst, arith, length-append}
use Rattle.std.proofs.lemmas.List.{append-nil, map-append}
use Rattle.std.specs.Prelude.{Option, Result, Ok, Err, OnOk}
use Rattle.std.specs.List.{flat_map}
use Rattle.ots_disk.specs.Disk.{LeavesOnly}
use Rattle.ots_disk.specs.Moments.{started, weaker}
use Rattle.ots_journal.specs.declared.entry.Entry.{Entry}
use Rattle.ots_journal.specs.declared.errors.AppendError.{AppendError}
use Rattle.ots_journal.specs.declared.errors.AppendError.TheVariants.{DiskFault, Full, OutOfMemory}
use Rattle.ots_journal.specs.Image.{FitsEntry}
use Rattle.ots_journal.specs.Journal.{JournalTold, StandsForEither, Refreshed, Unrefreshed, Appends, Puts, UsesRoom, size_with}
use Rattle.ots_store.specs.Held.{HeldTold, Holds}
use Rattle.ots_store.specs.Order.{records_of, AreRecords}
use Rattle.ots_store.specs.Records.{Record, CommitRecord, TipRecord, AnchorRecord, entry_of, record_of, IsRecord, HasForm, step_bytes, anchor_rest, anchor_payload, sized, branch_bytes}
use Rattle.ots_store.specs.Store.{InRecords, StandsForRecords, Keeps, MakesRoom, spare_in, Added, AddOutcome, Adds, Settles}
use Rattle.ots_store.proofs.Formed.{steps_long}
use Rattle.ots_store.proofs.Ordered.{records_append}
use Rattle.ots_store.proofs.Storing.{held_few}

pub either_readable : (entries group : List Entry) → InRecords entries → InRecords (entries ++ group) → (c : List ℕ) → StandsForEither entries group c → StandsForRecords c
either_readable entries group are more c (inl stands) = record { entries = entries; stands = stands; records = are }
either_readable entries group are more c (inr stands) = record { entries = entries ++ group; stands = stands; records = more }

flight_at : {D : Type 0} (j : JournalTold D) (held : HeldTold) (b : Bool) → j.is_sure ≡ b → Keeps j held → (j.is_sure ≡ true → j.flight ≡ []) → InRecords (j.entries ++ j.flight)
flight_at j held true is k none = subst (λ (l : List Entry). InRecords (j.entries ++ l)) (sym (none is)) (subst InRecords (sym (append-nil j.entries)) k.are)
flight_at j held false is k none = records_append [] j.entries j.flight k.are (k.flying is).0

pub refresh_readable : {D : Type 0} (clock : D → ℕ) (since : D → ℕ → List ℕ → Type 0) (j : JournalTold D) (d : D) (held : HeldTold) → Keeps j held → (j.is_sure ≡ true → j.flight ≡ [])
    → LeavesOnly clock since j.disk d (StandsForEither j.entries j.flight) → LeavesOnly clock since j.disk d StandsForRecords
refresh_readable clock since j d held k none run =
    weaker clock since j.disk d (StandsForEither j.entries j.flight) StandsForRecords run (either_readable j.entries j.flight k.are (flight_at j held j.is_sure refl k none))

pub nothing_flies : {D : Type 0} (bytes : D → Option (List ℕ)) (old new : JournalTold D) → Refreshed bytes old new → old.is_sure ≡ true → old.flight ≡ []
nothing_flies bytes old new r sure = ap (λ (j : JournalTold _). j.flight) (sym (r.already sure)) ∙ r.none_in_flight

pub sure_appends : {D : Type 0} (bytes : D → Option (List ℕ)) (clock : D → ℕ) (since : D → ℕ → List ℕ → Type 0) (old new : JournalTold D) (group : List Entry) (outcome : Result ℕ AppendError)
    → old.is_sure ≡ true → Appends bytes clock since old new group outcome → Puts clock since old new group outcome
sure_appends bytes clock since old new group outcome sure (inl after) = subst (λ (j : JournalTold _). Puts clock since j new group outcome) (after.refreshed.already sure) after.puts
sure_appends bytes clock since old new group outcome sure (inr nothing) = absurd (let h : true ≡ false = sym sure ∙ nothing.unrefreshed.was_unsure in cc)

pub added_readable : {D A : Type 0} (clock : D → ℕ) (since : D → ℕ → List ℕ → Type 0) (old new : JournalTold D) (group : List Entry) (result : Result A AppendError)
    → InRecords old.entries → AreRecords (records_of old.entries) group → Added clock since old new group result → LeavesOnly clock since old.disk new.disk StandsForRecords
added_readable clock since old new group result are follow added =
    weaker clock since old.disk new.disk (StandsForEither old.entries group) StandsForRecords added.at_any_moment (either_readable old.entries group are (records_append [] old.entries group are follow))

pub puts_readable : {D : Type 0} (clock : D → ℕ) (since : D → ℕ → List ℕ → Type 0) (old new : JournalTold D) (group : List Entry) (result : Result ℕ AppendError)
    → InRecords old.entries → AreRecords (records_of old.entries) group → Puts clock since old new group result → LeavesOnly clock since old.disk new.disk StandsForRecords
puts_readable clock since old new group result are follow puts =
    weaker clock since old.disk new.disk (StandsForEither old.entries group) StandsForRecords puts.at_any_moment (either_readable old.entries group are (records_append [] old.entries group are follow))

not_sure : {A : Type 0} (b : Bool) → b ≡ true → b ≡ false → A
not_sure b sure unsure = absurd (let h : true ≡ false = sym sure ∙ unsure in cc)

-- ---- what is kept by the answer of an append to a sure journal

module _ {D : Type 0} (clock : D → ℕ) (since : D → ℕ → List ℕ → Type 0) (old new : JournalTold D) (group : List Entry) (staged held : HeldTold)
    (sure : old.is_sure ≡ true) (are : InRecords old.entries) (follow : AreRecords (records_of old.entries) group) (holds : Holds (records_of old.entries) (records_of group) staged) where
  forgotten : new ≡ old → ((kept flight : List Record) → Holds kept flight staged → Holds kept [] held) → Keeps new held
  forgotten same gone = subst (λ (j : JournalTold D). Keeps j held) (sym same) (record {
    are = are;
    flight = [];
    holds = gone (records_of old.entries) (records_of group) holds;
    settled = λ _. refl;
    flying = λ unsure. not_sure old.is_sure sure unsure;
  })

  pub settled_keeps : (outcome : Result ℕ AppendError) (result : Result (Unit {0}) AppendError) → Puts clock since old new group outcome → Settles outcome result staged held → Keeps new held
  settled_keeps (Ok first) result puts settles =
      let put = puts.outcome in
      record {
        are = subst InRecords (sym put.entries) (records_append [] old.entries group are follow);
        flight = [];
        holds = subst (λ (l : List Record). Holds l [] held) (sym (map-append record_of old.entries group) ∙ ap records_of (sym put.entries)) (settles.1 (records_of old.entries) (records_of group) holds);
        settled = λ _. refl;
        flying = λ unsure. not_sure new.is_sure put.sure unsure;
      }
  settled_keeps (Err DiskFault) result puts settles =
      let flies = puts.outcome in
      record {
        are = subst InRecords (sym flies.entries) are;
        flight = records_of group;
        holds = subst (λ (h : HeldTold). Holds (records_of new.entries) (records_of group) h) (sym settles.1) (subst (λ (l : List Entry). Holds (records_of l) (records_of group) staged) (sym flies.entries) holds);
        settled = λ is. not_sure new.is_sure is flies.unsure;
        flying = λ _. (subst (λ (l : List Entry). AreRecords (records_of new.entries) l) (sym flies.flight) (subst (λ (l : List Entry). AreRecords (records_of l) group) (sym flies.entries) follow), ap records_of (sym flies.flight));
      }
  settled_keeps (Err (Full need limit)) result puts settles = forgotten puts.outcome.0 settles.1
  settled_keeps (Err OutOfMemory) result puts settles = forgotten puts.outcome settles.1

-- an append that answered Ok leaves so many commitments in memory
pub settles_few : {D : Type 0} (clock : D → ℕ) (since : D → ℕ → List ℕ → Type 0) (old new : JournalTold D) (group : List Entry) (staged : HeldTold) (outcome : Result ℕ AppendError) → Puts clock since old new group outcome
    → Holds (records_of old.entries) (records_of group) staged → length new.entries < 2 ^ 32 → OnOk outcome (length (staged.commitments.kept ++ staged.commitments.flight) ≤ 2 ^ 32)
settles_few clock since old new group staged (Ok first) puts holds few = let held = held_few old.entries group staged holds in omega (arith, held, ap length puts.outcome.entries, few)
settles_few clock since old new group staged (Err why) puts holds few = tt

-- the record of an entry is of a size that the journal takes
sizes : (r : Record) → HasForm r → FitsEntry (entry_of r)
sizes (CommitRecord commitment) fits = (omega (arith, fits), omega (arith, fits))
sizes (TipRecord tip) fits = (omega (arith, fits.root), omega (arith, fits.root))
sizes (AnchorRecord anchor) fits =
    let steps = steps_long anchor.branch fits.hashes in
    let rest : length (anchor_rest anchor) ≡ 2 + length anchor.prefix + (2 + length anchor.suffix) + (1 + length (flat_map step_bytes anchor.branch)) =
    length-append (sized anchor.prefix) (sized anchor.suffix ++ branch_bytes anchor.branch) ∙ omega (arith, length-append (sized anchor.suffix) (branch_bytes anchor.branch)) in
    let size : length (anchor_payload anchor) ≡ 24 + (length anchor.root + length (anchor_rest anchor)) = omega (arith, length-append anchor.root (anchor_rest anchor)) in
    (omega (arith, size, rest, fits.root), omega (arith, size, rest, steps, fits.root, fits.steps, fits.message))

pub record_fits : (e : Entry) → IsRecord e → FitsEntry e
record_fits e r = subst FitsEntry (sym r.spelled) (sizes (record_of e) r.form)

-- a record staged after none in flight
pub staged_one : (entries : List Entry) (flight : List Record) (e : Entry) (held : HeldTold) → flight ≡ [] → Holds (records_of entries) (flight ++ record_of e ∷ []) held → Holds (records_of entries) (records_of (e ∷ [])) held
staged_one entries flight e held none h = subst (λ (l : List Record). Holds (records_of entries) (l ++ record_of e ∷ []) held) none h

pub staged_all : (entries : List Entry) (flight : List Record) (group : List Entry) (held : HeldTold) → flight ≡ [] → Holds (records_of entries) (flight ++ records_of group) held → Holds (records_of entries) (records_of group) held
staged_all entries flight group held none h = subst (λ (l : List Record). Holds (records_of entries) (l ++ records_of group) held) none h

-- ---- the same with another answer

module _ {D A B : Type 0} (clock : D → ℕ) (since : D → ℕ → List ℕ → Type 0) (old new : JournalTold D) (group : List Entry) (r : Result A AppendError) (r' : Result B AppendError) where
  into : (x : Result A AppendError) → r ≡ x → AddOutcome old new group r → AddOutcome old new group x
  into x is outcome = subst (λ (y : Result A AppendError). AddOutcome old new group y) is outcome

  out_of : (x : Result B AppendError) → r' ≡ x → AddOutcome old new group x → AddOutcome old new group r'
  out_of x is outcome = subst (λ (y : Result B AppendError). AddOutcome old new group y) (sym is) outcome

  pub added_ok : (a : A) (b : B) → r ≡ Ok a → r' ≡ Ok b → Added clock since old new group r → Added clock since old new group r'
  added_ok a b is is' added = record {
    outcome = out_of (Ok b) is' (into (Ok a) is added.outcome);
    full = λ lt. elim (added.full lt) [ inl e ↦ absurd (cc) | inr e ↦ absurd (cc) ];
    at_any_moment = added.at_any_moment;
  }

  outcome_err : (why : AppendError) → r ≡ Err why → r' ≡ Err why → AddOutcome old new group r → AddOutcome old new group r'
  outcome_err DiskFault is is' outcome = out_of (Err DiskFault) is' (into (Err DiskFault) is outcome)
  outcome_err (Full need limit) is is' outcome = out_of (Err (Full need limit)) is' (into (Err (Full need limit)) is outcome)
  outcome_err OutOfMemory is is' outcome = out_of (Err OutOfMemory) is' (into (Err OutOfMemory) is outcome)

  same_why : (why e : AppendError) → r ≡ Err why → r' ≡ Err why → r ≡ Err e → r' ≡ Err e
  same_why why e is is' found = let same : why ≡ e = (cc) in is' ∙ ap (λ (x : AppendError). Err x) same

  pub added_err : (why : AppendError) → r ≡ Err why → r' ≡ Err why → Added clock since old new group r → Added clock since old new group r'
  added_err why is is' added = record {
    outcome = outcome_err why is is' added.outcome;
    full = λ lt. elim (added.full lt) [ inl e ↦ inl (same_why why (Full (size_with old.gate group) old.limit) is is' e) | inr e ↦ inr (same_why why OutOfMemory is is' e) ];
    at_any_moment = added.at_any_moment;
  }

-- ---- memory

settled_memory : (outcome : Result ℕ AppendError) (result : Result (Unit {0}) AppendError) (staged held : HeldTold) → Settles outcome result staged held → result ≡ Err OutOfMemory → outcome ≡ Err OutOfMemory
settled_memory (Ok first) result staged held settles is = absurd (let h = settles.0 in cc)
settled_memory (Err DiskFault) result staged held settles is = absurd (let h = settles.0 in cc)
settled_memory (Err (Full need limit)) result staged held settles is = absurd (let h = settles.0 in cc)
settled_memory (Err OutOfMemory) result staged held settles is = refl

-- a record that there is room for is not refused for want of memory
pub add_not_refused : {D : Type 0} (old new : JournalTold D) (e : Entry) (before staged held : HeldTold) (outcome : Result ℕ AppendError) (result : Result (Unit {0}) AppendError)
    → UsesRoom old new (e ∷ []) outcome → Settles outcome result staged held → 0 < spare_in old before → length e.payload ≤ 48 → result ≡ Err OutOfMemory → ⊥
add_not_refused old new e before staged held outcome result room settles spare short is =
    room.enough (omega (arith, spare)) (omega (arith, spare, short)) (settled_memory outcome result staged held settles is)

-- a group that is refused so leaves all as it was
pub put_memory : {D : Type 0} (clock : D → ℕ) (since : D → ℕ → List ℕ → Type 0) (old new : JournalTold D) (group : List Entry) (staged held : HeldTold) (outcome : Result ℕ AppendError) (result : Result (Unit {0}) AppendError)
    → Puts clock since old new group outcome → Settles outcome result staged held → result ≡ Err OutOfMemory → new ≡ old
put_memory clock since old new group staged held outcome result puts settles is =
    (subst (λ (o : Result ℕ AppendError). Puts clock since old new group o) (settled_memory outcome result staged held settles is) puts).outcome

-- room is made before the refresh
module _ {D A : Type 0} (bytes : D → Option (List ℕ)) (clock : D → ℕ) (since : D → ℕ → List ℕ → Type 0) (old roomy : JournalTold D) (group : List Entry) (room : MakesRoom old roomy) where
  pub adds_after : (mid new : JournalTold D) (result : Result A AppendError) → Refreshed bytes roomy mid → LeavesOnly clock since roomy.disk mid.disk (StandsForEither roomy.entries roomy.flight)
      → Added clock since mid new group result → (result ≡ Err OutOfMemory → ⊥) → Adds bytes clock since old new group result
  adds_after mid new result refreshed run added has_room = inl (record {
    spare_entries = roomy.spare_entries;
    spare_bytes = roomy.spare_bytes;
    mid = mid;
    refreshed = subst (λ (j : JournalTold D). Refreshed bytes j mid) room.same refreshed;
    refreshing = subst (λ (j : JournalTold D). LeavesOnly clock since j.disk mid.disk (StandsForEither j.entries j.flight)) room.same run;
    added = added;
    has_room = has_room;
  })

  pub adds_nothing : (new : JournalTold D) (result : Result A AppendError) → Unrefreshed bytes roomy new → LeavesOnly clock since roomy.disk new.disk (StandsForEither roomy.entries roomy.flight)
      → result ≡ Err DiskFault → Adds bytes clock since old new group result
  adds_nothing new result unrefreshed run fault = inr (inl (record {
    spare_entries = roomy.spare_entries;
    spare_bytes = roomy.spare_bytes;
    unrefreshed = subst (λ (j : JournalTold D). Unrefreshed bytes j new) room.same unrefreshed;
    fault = fault;
    refreshing = subst (λ (j : JournalTold D). LeavesOnly clock since j.disk new.disk (StandsForEither j.entries j.flight)) room.same run;
  }))

-- memory that runs out does so before the disk is called
pub adds_untouched : {D A : Type 0} (bytes : D → Option (List ℕ)) (clock : D → ℕ) (since : D → ℕ → List ℕ → Type 0) (old new : JournalTold D) (group : List Entry) (result : Result A AppendError)
    → Adds bytes clock since old new group result → result ≡ Err OutOfMemory → new.disk ≡ old.disk
adds_untouched bytes clock since old new group result (inl after) is = absurd (after.has_room is)
adds_untouched bytes clock since old new group result (inr (inl nothing)) is = absurd (let h = nothing.fault in cc)
adds_untouched bytes clock since old new group result (inr (inr untouched)) is = ap (λ (j : JournalTold _). j.disk) untouched.room.same

-- where the disk is not called, it leaves what it has
pub room_leaves : {D : Type 0} (clock : D → ℕ) (images : D → List ℕ → Type 0) (since : D → ℕ → List ℕ → Type 0) (only_now : (d : D) (c : List ℕ) → since d (clock d) c → images d c) (old new : JournalTold D) (P : List ℕ → Type 0)
    → MakesRoom old new → ((c : List ℕ) → images old.disk c → P c) → LeavesOnly clock since old.disk new.disk P
room_leaves clock images since only_now old new P room here =
    subst (λ (d : _). LeavesOnly clock since old.disk d P) (ap (λ (j : JournalTold _). j.disk) (sym room.same)) (started clock since old.disk P (λ c left. here c (only_now old.disk c left)))
