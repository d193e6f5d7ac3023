-- What closing a round comes to, by each of its answers.
use Rattle.std.proofs.Common.{◌≡◌, inl, inr, ℕ, ◌+◌, ◌<◌, ◌≤◌, Bool, true, false, List, [], ◌∷◌, ◌++◌, length, refl, ap, subst, arith, length-append}
use Rattle.std.specs.Int.{w32, to_be_bytes}
use Rattle.std.specs.Prelude.{Option, None, Some, IfSome, Result, Ok, Err}
use Rattle.ots_calendar.specs.Book.{BookTold}
use Rattle.ots_calendar.specs.Rounds.{Closes, round_answer}
use Rattle.ots_journal.specs.Journal.{JournalTold, Refreshed, size_with}
use Rattle.ots_journal.specs.declared.errors.AppendError.{AppendError}
use Rattle.ots_journal.specs.declared.errors.AppendError.TheVariants.{Full}
use Rattle.ots_merkle.specs.CalendarTree.{root}
use Rattle.ots_round.specs.Hmac.{hmac_sha256, filled, masked}
use Rattle.ots_round.specs.Round.{leaf, leaves, mac, signed, round_commitment}
use Rattle.ots_round.specs.declared.ticket.Ticket.{Ticket}
use Rattle.ots_round.proofs.Leading.{length_root, are_leaves}
use Rattle.sha2.specs.Sha256.{sha256}
use Rattle.sha2.proofs.Facts256.{length-sha256}
use Rattle.std.proofs.lemmas.List.{length-map, length-take-le}
use Rattle.ots_store.specs.Records.{CommitRecord, entry_of, record_of}
use Rattle.ots_store.specs.Store.{Adds, with_room}
use Rattle.ots_store.specs.Order.{commits_of, records_of}
use Rattle.ots_shared.specs.Rows.{row}
use Rattle.ots_tickets.specs.Tickets.{IsSettled, NoneIs, OneIs, Waits, settles}
use Rattle.ots_journal.specs.declared.entry.Entry.{Entry}
use Rattle.ots_tickets.proofs.Places.{settles_long}
use native.Mathlib.Decide.{dec_le}
use mathlib.Core.Logic.{dite}
use Rattle.ots_connection.proofs.Withdrawn.{closed_bears}
use Rattle.ots_connection.specs.Closing.{AllBear, Closed, kept}
use Rattle.ots_connection.specs.Stamping.{IsFull, IsStored}

-- something waits, so it is not nothing
some_index : (added : Result ℕ AppendError) → Ok None ≡ round_answer added → ⊥
some_index (Ok i) is = cc
some_index (Err why) is = cc

pub closes_some : {D : Type 0} (bytes : D → Option (List ℕ)) (clock : D → ℕ) (since : D → ℕ → List ℕ → Type 0) (key : List ℕ) (second : ℕ) (old new : BookTold D)
    → 0 < length old.tickets.waiting → Closes bytes clock since key second old new (Ok None) → ⊥
closes_some bytes clock since key second old new some (inl r) = some_index r.added r.answer
closes_some bytes clock since key second old new some (inr (inl n)) = let e = ap length n.nothing in omega arith
closes_some bytes clock since key second old new some (inr (inr n)) = let e = n.answer in cc

-- a commitment has 44 bytes
hash_eight : (m : List ℕ) (key : List ℕ) → length (mac key m) ≡ 8
hash_eight m key = length-take-le 8 (hmac_sha256 key m) (omega (arith, length-sha256 (masked 0x5c (filled key) ++ sha256 (masked 0x36 (filled key) ++ m))))

pub commitment_long : (key : List ℕ) (second : ℕ) (tickets : List Ticket) → 0 < length tickets → length (round_commitment key second tickets) ≡ 44
commitment_long key second tickets some =
    let up : length (root (leaves tickets)) ≡ 32 = length_root (leaves tickets) (are_leaves tickets) (omega (arith, length-map tickets leaf)) in
    let prefix : List ℕ = signed second (root (leaves tickets)) in
    omega (arith, up, length-append prefix (mac key prefix), length-append (to_be_bytes w32 second) (root (leaves tickets)), hash_eight prefix key)

full_of : (added : Result ℕ AppendError) (need limit : ℕ) → Err (Full need limit) ≡ round_answer added → added ≡ Err (Full need limit)
full_of (Ok i) need limit is = absurd cc
full_of (Err why) need limit is = cc

-- it did not fit
abbrev is_index : ℕ → Result ℕ AppendError
is_index i = Ok i

abbrev is_full : ℕ → ℕ → Result ℕ AppendError
is_full need limit = Err (Full need limit)

module _ {D : Type 0} (bytes : D → Option (List ℕ)) (clock : D → ℕ) (since : D → ℕ → List ℕ → Type 0) where
  adds_full : (old new : JournalTold D) (c : List ℕ) (need limit : ℕ) → length c ≡ 44 → Adds bytes clock since old new (entry_of (CommitRecord c) ∷ []) (is_full need limit) → IsFull old.limit new.gate
  adds_full old new c need limit long (inl after) =
      let out = after.added.outcome in
      let gate : new.gate ≡ after.mid.gate = ap (λ (j : JournalTold D). j.gate) out.0 in
      record {
        commitment = c;
        long = long;
        past = let past = out.3 in let same = after.refreshed.limit in omega arith;
      }
  adds_full old new c need limit long (inr (inl nothing)) = let e = nothing.fault in absurd cc
  adds_full old new c need limit long (inr (inr untouched)) = let e = untouched.no_memory in absurd cc

  pub closes_full : (key : List ℕ) (second : ℕ) (old new : BookTold D) (need limit : ℕ)
      → Closes bytes clock since key second old new (Err (Full need limit)) → IsFull old.store.journal.limit new.store.journal.gate
  closes_full key second old new need limit (inl r) =
      let c : List ℕ = round_commitment key second old.tickets.waiting in
      adds_full old.store.journal new.store.journal c need limit (commitment_long key second old.tickets.waiting r.some)
      (subst (λ (a : Result ℕ AppendError). Adds bytes clock since old.store.journal new.store.journal (entry_of (CommitRecord c) ∷ []) a) (full_of r.added need limit r.answer) r.adds)
  closes_full key second old new need limit (inr (inl n)) = let e = n.answer in absurd cc
  closes_full key second old new need limit (inr (inr n)) = let e = n.answer in absurd cc

-- what was closed
pub closed_of : {D : Type 0} (key : List ℕ) (second : ℕ) (old new : BookTold D) (o : Option ℕ) → (o ≡ None → ⊥)
    → IfSome o (λ i. new.tickets.settled ≡ old.tickets.settled ++ settles key second i old.tickets.waiting) → IfSome o (λ i. i + 1 ≡ length (commits_of new.store.records)) → Closed key second old new
closed_of key second old new None not is last = absurd (not refl)
closed_of key second old new (Some i) not is last = record { index = i; settled = is; last = last }

-- what is known of the receipt of a ticket whose round this hold has closed
pub closes_it : {D : Type 0} (faults : D → ℕ) (key : List ℕ) (second limit : ℕ) (old mid new : BookTold D) (t : Ticket) → OneIs (Waits t) old.tickets.waiting → NoneIs (IsSettled t) old.tickets.settled
    → Closed key second old mid → length old.store.records < length mid.store.records → length mid.tickets.waiting ≡ 0 → mid.store.journal.gate < limit → new.store ≡ mid.store → length new.tickets.waiting ≤ length mid.tickets.waiting
    → AllBear t (IsStored t.leaf t.nonce key second limit new.store.records (row faults old new)) mid.tickets.settled
closes_it faults key second limit old mid new t one none closed more empty fits same fewer =
    closed_bears t (IsStored t.leaf t.nonce key second limit new.store.records (row faults old new)) key second closed.index old.tickets.waiting old.tickets.settled mid.tickets.settled none closed.settled
    (inr (record {
      more = rw same more;
      tickets = old.tickets.waiting;
      there = record { before = one.before; one = one.one; after = one.after; whole = one.whole; is = (ap (λ (x : Ticket). x.leaf) one.is, ap (λ (x : Ticket). x.nonce) one.is) };
      all = omega arith;
      commitment = refl;
      last = rw same closed.last;
      none_waits = omega arith;
      within = rw same fits;
    }))

-- it fits where it was stored
fits_of : {D : Type 0} (bytes : D → Option (List ℕ)) (clock : D → ℕ) (since : D → ℕ → List ℕ → Type 0) (old new : JournalTold D) (group : List Entry) (i : ℕ) → Adds bytes clock since old new group (is_index i) → new.gate < old.limit
fits_of bytes clock since old new group i (inl after) =
    let out = after.added.outcome in
    dite (dec_le (size_with after.mid.gate group) after.mid.limit)
    (λ fits. let gate = out.gate in let same = after.refreshed.limit in omega arith)
    (λ not. elim (after.added.full (omega arith)) [ inl is ↦ absurd cc | inr is ↦ absurd cc ])
fits_of bytes clock since old new group i (inr (inl nothing)) = let e = nothing.fault in absurd cc
fits_of bytes clock since old new group i (inr (inr untouched)) = let e = untouched.no_memory in absurd cc

index_of : (added : Result ℕ AppendError) (o : Option ℕ) → Ok o ≡ round_answer added → (i : ℕ) × (added ≡ Ok i)
index_of (Ok i) o is = (i, refl)
index_of (Err why) o is = absurd cc

pub closes_fits : {D : Type 0} (bytes : D → Option (List ℕ)) (clock : D → ℕ) (since : D → ℕ → List ℕ → Type 0) (key : List ℕ) (second : ℕ) (old new : BookTold D) (o : Option ℕ)
    → 0 < length old.tickets.waiting → Closes bytes clock since key second old new (Ok o) → new.store.journal.gate < old.store.journal.limit
closes_fits bytes clock since key second old new o some (inl r) =
    let at = index_of r.added o r.answer in
    fits_of bytes clock since old.store.journal new.store.journal _ at.0 (subst (λ (a : Result ℕ AppendError). Adds bytes clock since old.store.journal new.store.journal _ a) at.1 r.adds)
closes_fits bytes clock since key second old new o some (inr (inl n)) = absurd (let e = ap length n.nothing in omega arith)
closes_fits bytes clock since key second old new o some (inr (inr n)) = let e = n.answer in absurd cc

-- there are more records where it was stored
refreshed_all : {D : Type 0} (bytes : D → Option (List ℕ)) (old mid : JournalTold D) (sure : Bool) → old.is_sure ≡ sure → Refreshed bytes old mid → length old.entries ≤ length mid.entries
refreshed_all {D} bytes old mid true is r = let e = ap (λ (j : JournalTold D). length j.entries) (r.already is) in omega arith
refreshed_all bytes old mid false is r = elim (r.decided is) [ inl e ↦ (let f = ap length e.0 in omega arith) | inr e ↦ (let f = ap length e.0 in omega (arith, length-append old.entries old.flight)) ]

adds_more : {D : Type 0} (bytes : D → Option (List ℕ)) (clock : D → ℕ) (since : D → ℕ → List ℕ → Type 0) (old new : JournalTold D) (e : Entry) (i : ℕ) → Adds bytes clock since old new (e ∷ []) (is_index i) → length old.entries < length new.entries
adds_more bytes clock since old new e i (inl after) =
    let put = ap length (after.added.outcome).entries in
    omega (arith, length-append after.mid.entries (e ∷ []), refreshed_all bytes (with_room old after.spare_entries after.spare_bytes) after.mid old.is_sure refl after.refreshed)
adds_more bytes clock since old new e i (inr (inl nothing)) = let f = nothing.fault in absurd cc
adds_more bytes clock since old new e i (inr (inr untouched)) = let f = untouched.no_memory in absurd cc

pub closes_more : {D : Type 0} (bytes : D → Option (List ℕ)) (clock : D → ℕ) (since : D → ℕ → List ℕ → Type 0) (key : List ℕ) (second : ℕ) (old new : BookTold D) (o : Option ℕ)
    → 0 < length old.tickets.waiting → old.store.records ≡ records_of old.store.journal.entries → new.store.records ≡ records_of new.store.journal.entries
    → Closes bytes clock since key second old new (Ok o) → length old.store.records < length new.store.records
closes_more bytes clock since key second old new o some before now (inl r) =
    let at = index_of r.added o r.answer in
    let adds = subst (λ (a : Result ℕ AppendError). Adds bytes clock since old.store.journal new.store.journal (entry_of (CommitRecord (round_commitment key second old.tickets.waiting)) ∷ []) a) at.1 r.adds in
    omega (
      arith,
      ap length before,
      ap length now,
      length-map old.store.journal.entries record_of,
      length-map new.store.journal.entries record_of,
      adds_more bytes clock since old.store.journal new.store.journal (entry_of (CommitRecord (round_commitment key second old.tickets.waiting))) at.0 adds,
    )
closes_more bytes clock since key second old new o some before now (inr (inl n)) = absurd (let e = ap length n.nothing in omega arith)
closes_more bytes clock since key second old new o some before now (inr (inr n)) = let e = n.answer in absurd cc

-- as many tickets are kept
pub closed_kept : {D : Type 0} (key : List ℕ) (second : ℕ) (old new : BookTold D) → length new.tickets.waiting ≡ 0 → Closed key second old new → kept new.tickets ≡ kept old.tickets
closed_kept key second old new none closed =
    omega (
      arith,
      none,
      ap length closed.settled,
      length-append old.tickets.settled (settles key second closed.index old.tickets.waiting),
      settles_long closed.index (round_commitment key second old.tickets.waiting) (leaves old.tickets.waiting) 0 old.tickets.waiting,
    )
