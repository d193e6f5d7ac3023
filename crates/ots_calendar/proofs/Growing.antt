-- A call that may write adds records after those that it found.
use Rattle.std.proofs.Common.{◌≡◌, inl, inr, ℕ, Bool, true, false, List, [], ◌++◌, refl, sym, ap, ◌∙◌, append_assoc}
use Rattle.std.proofs.lemmas.List.{append-nil}
use Rattle.std.specs.Prelude.{Option, Result, Ok, Err}
use Rattle.ots_block.specs.Block.{Contents}
use Rattle.ots_journal.specs.declared.entry.Entry.{Entry}
use Rattle.ots_journal.specs.declared.errors.AppendError.{AppendError}
use Rattle.ots_journal.specs.declared.errors.AppendError.TheVariants.{DiskFault, Full, OutOfMemory}
use Rattle.ots_journal.specs.Journal.{JournalTold, Refreshed, Unrefreshed}
use Rattle.ots_store.specs.declared.anchor.Anchor.{Anchor}
use Rattle.ots_store.specs.declared.tip.Tip.{Tip}
use Rattle.ots_store.specs.Store.{StoreTold, Added, Adds, MakesRoom, with_room}
use Rattle.ots_calendar.specs.declared.errors.AnchorError.{AnchorError}
use Rattle.ots_calendar.specs.declared.errors.TipError.{TipError}
use Rattle.ots_calendar.specs.Anchors.{AnchorsIn, AsksAnchor}
use Rattle.ots_calendar.specs.Book.{BookTold, Grows, StopsInRoom}
use Rattle.ots_calendar.specs.Rounds.{Closes}
use Rattle.ots_calendar.specs.Tips.{TipAfter, AsksTip}

-- nothing changes
pub stays : {D : Type 0} (old new : JournalTold D) → new ≡ old → Grows old new
stays old new same = record { limit = ap (λ (j : JournalTold _). j.limit) same; more = []; entries = ap (λ (j : JournalTold _). j.entries) same ∙ sym (append-nil old.entries) }

-- only room is made
pub room_grows : {D : Type 0} (old new : JournalTold D) → MakesRoom old new → Grows old new
room_grows old new room = record { limit = ap (λ (j : JournalTold _). j.limit) room.same; more = []; entries = ap (λ (j : JournalTold _). j.entries) room.same ∙ sym (append-nil old.entries) }

in_room : {D : Type 0} (old new : JournalTold D) (spare_entries spare_bytes : ℕ) → Grows (with_room old spare_entries spare_bytes) new → Grows old new
in_room old new spare_entries spare_bytes grows = record { limit = grows.limit; more = grows.more; entries = grows.entries }

-- one call after the other
pub onward : {D : Type 0} (old mid new : JournalTold D) → Grows old mid → Grows mid new → Grows old new
onward old mid new one two = record {
  limit = two.limit ∙ one.limit;
  more = one.more ++ two.more;
  entries = two.entries ∙ ap (λ (l : List Entry). l ++ two.more) one.entries ∙ append_assoc old.entries one.more two.more;
}

refreshed_at : {D : Type 0} (bytes : D → Option (List ℕ)) (old new : JournalTold D) (b : Bool) → old.is_sure ≡ b → Refreshed bytes old new → Grows old new
refreshed_at bytes old new true sure r = stays old new (r.already sure)
refreshed_at bytes old new false unsure r = elim (r.decided unsure) [
  | inl same ↦ record { limit = r.limit; more = []; entries = same.0 ∙ sym (append-nil old.entries) }
  | inr more ↦ record { limit = r.limit; more = old.flight; entries = more.0 }
]

pub refreshed : {D : Type 0} (bytes : D → Option (List ℕ)) (old new : JournalTold D) → Refreshed bytes old new → Grows old new
refreshed bytes old new r = refreshed_at bytes old new old.is_sure refl r

pub unrefreshed : {D : Type 0} (bytes : D → Option (List ℕ)) (old new : JournalTold D) → Unrefreshed bytes old new → Grows old new
unrefreshed bytes old new r = record { limit = ap (λ (j : JournalTold _). j.limit) r.same; more = []; entries = ap (λ (j : JournalTold _). j.entries) r.same ∙ sym (append-nil old.entries) }

pub added : {D A : Type 0} (clock : D → ℕ) (since : D → ℕ → List ℕ → Type 0) (old new : JournalTold D) (group : List Entry) (result : Result A AppendError) → Added clock since old new group result → Grows old new
added clock since old new group (Ok x) a = record { limit = a.outcome.limit; more = group; entries = a.outcome.entries }
added clock since old new group (Err DiskFault) a = record { limit = a.outcome.limit; more = []; entries = a.outcome.entries ∙ sym (append-nil old.entries) }
added clock since old new group (Err (Full need limit)) a = stays old new a.outcome.0
added clock since old new group (Err OutOfMemory) a = stays old new a.outcome

pub adds : {D A : Type 0} (bytes : D → Option (List ℕ)) (clock : D → ℕ) (since : D → ℕ → List ℕ → Type 0) (old new : JournalTold D) (group : List Entry) (result : Result A AppendError) → Adds bytes clock since old new group result → Grows old new
adds bytes clock since old new group result (inl after) =
    let roomy = with_room old after.spare_entries after.spare_bytes in
    onward old after.mid new (in_room old after.mid after.spare_entries after.spare_bytes (refreshed bytes roomy after.mid after.refreshed)) (added clock since after.mid new group result after.added)
adds bytes clock since old new group result (inr (inl nothing)) =
    in_room old new nothing.spare_entries nothing.spare_bytes (unrefreshed bytes (with_room old nothing.spare_entries nothing.spare_bytes) new nothing.unrefreshed)
adds bytes clock since old new group result (inr (inr untouched)) = room_grows old new untouched.room

module _ {D : Type 0} (bytes : D → Option (List ℕ)) (clock : D → ℕ) (since : D → ℕ → List ℕ → Type 0) where
  tip_after : (mid new : JournalTold D) (result : Result Tip TipError) → TipAfter clock since new result mid → Grows mid new
  tip_after mid new result (inl nothing) = stays mid new nothing.1
  tip_after mid new result (inr gives) = elim gives.stores [
    | inl there ↦ stays mid new there.1
    | inr more ↦ added clock since mid new _ gives.stored more.1
  ]

  pub on_grows : (old mid : JournalTold D) (spare_entries spare_bytes : ℕ) → Refreshed bytes (with_room old spare_entries spare_bytes) mid → Grows old mid
  on_grows old mid spare_entries spare_bytes r = in_room old mid spare_entries spare_bytes (refreshed bytes (with_room old spare_entries spare_bytes) mid r)

  pub stop_grows : (old new : JournalTold D) → StopsInRoom bytes clock since old new → Grows old new
  stop_grows old new stop = in_room old new stop.spare_entries stop.spare_bytes (unrefreshed bytes (with_room old stop.spare_entries stop.spare_bytes) new stop.stops.unrefreshed)

  pub tip_grows : (old new : JournalTold D) (result : Result Tip TipError) → AsksTip bytes clock since old new result → Grows old new
  tip_grows old new result (inl on) =
      let g = on.goes_on in
      onward old g.mid new (on_grows old g.mid on.spare_entries on.spare_bytes g.refreshed) (tip_after g.mid new result g.goes_on)
  tip_grows old new result (inr (inl stop)) = stop_grows old new stop.0
  tip_grows old new result (inr (inr short)) = room_grows old new short.0

  anchor_in : (block : Contents) (height : ℕ) (old new : JournalTold D) (result : Result Anchor AnchorError) → AnchorsIn bytes clock since block height old new result → Grows old new
  anchor_in block height old new result (inl on) = elim on.goes_on [
    | inl gives ↦ onward old on.mid new (refreshed bytes old on.mid on.refreshed) (added clock since on.mid new _ gives.stored gives.stores)
    | inr none ↦ onward old on.mid new (refreshed bytes old on.mid on.refreshed) (stays on.mid new none.same)
  ]
  anchor_in block height old new result (inr stop) = unrefreshed bytes old new (stop.0).unrefreshed

  pub anchor_grows : (block : Contents) (height : ℕ) (old new : JournalTold D) (result : Result Anchor AnchorError) → AsksAnchor bytes clock since block height old new result → Grows old new
  anchor_grows block height old new result (inl asks) = anchor_in block height old new result asks.1
  anchor_grows block height old new result (inr nothing) = stays old new nothing.same

  pub close_grows : (key : List ℕ) (second : ℕ) (old new : BookTold D) (result : Result (Option ℕ) AppendError) → Closes bytes clock since key second old new result → Grows old.store.journal new.store.journal
  close_grows key second old new result (inl closes) = adds bytes clock since old.store.journal new.store.journal _ closes.added closes.adds
  close_grows key second old new result (inr (inl nothing)) = stays old.store.journal new.store.journal (ap (λ (s : StoreTold D). s.journal) nothing.store)
  close_grows key second old new result (inr (inr none)) = stays old.store.journal new.store.journal (ap (λ (s : StoreTold D). s.journal) none.store)
