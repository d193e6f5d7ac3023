-- What a store keeps.
use Rattle.std.proofs.Common.{◌≡◌, inl, inr, ◌≤◌, ℕ, Bool, true, false, List, [], ◌∷◌, ◌++◌, length, refl, sym, ◌∙◌, ap, subst, arith, length-append}
use Rattle.std.proofs.lemmas.List.{append-nil, map-append, nil_from_length, length-map}
use Rattle.std.specs.Prelude.{Option}
use Rattle.ots_journal.specs.declared.entry.Entry.{Entry}
use Rattle.ots_journal.specs.Journal.{JournalTold, StandsNow, Refreshed}
use Rattle.ots_store.specs.declared.errors.StoreError.{StoreError}
use Rattle.ots_store.specs.declared.errors.StoreError.TheVariants.{BadRecord, OutOfMemory}
use Rattle.ots_store.specs.declared.anchor.Anchor.{Anchor}
use Rattle.ots_store.specs.declared.tip.Tip.{Tip}
use Rattle.ots_store.specs.Held.{HeldTold, Holds}
use Rattle.ots_store.specs.Opening.{IfBad}
use Rattle.ots_store.specs.Order.{commits_of, tips_of, anchors_of, covered_by, records_of, FirstBad}
use Rattle.ots_store.specs.Ranges.{RisesFrom, TipsRiseFrom}
use Rattle.ots_store.specs.Records.{Record, CommitRecord, TipRecord, AnchorRecord, record_of}
use Rattle.ots_store.specs.Store.{InRecords, StandsForRecords, StoreStands, Keeps, MakesRoom, spare_in}
use Rattle.ots_store.proofs.Bad.{not_bad}
use Rattle.ots_store.proofs.Ordered.{orderly, records_append}

pub commits_few : (records : List Record) → length (commits_of records) ≤ length records
commits_few [] = omega arith
commits_few (CommitRecord c ∷ records) = omega (arith, commits_few records)
commits_few (TipRecord t ∷ records) = omega (arith, commits_few records)
commits_few (AnchorRecord a ∷ records) = omega (arith, commits_few records)

pub entries_few : (entries : List Entry) → length (commits_of (records_of entries)) ≤ length entries
entries_few entries = omega (arith, commits_few (records_of entries), length-map entries record_of)

pub rises : (entries : List Entry) (anchors : List Anchor) → InRecords entries → anchors ≡ anchors_of (records_of entries) → RisesFrom 0 anchors
rises entries anchors are is = subst (RisesFrom 0) (sym is) (orderly (records_of entries) are.order).rises

pub tips_rise : (entries : List Entry) (tips : List Tip) → InRecords entries → tips ≡ tips_of (records_of entries) → TipsRiseFrom 0 0 tips
tips_rise entries tips are is = subst (TipsRiseFrom 0 0) (sym is) (orderly (records_of entries) are.order).tips_rise

pub covered_few : (entries : List Entry) (anchors : List Anchor) → InRecords entries → anchors ≡ anchors_of (records_of entries) → covered_by anchors ≤ length entries
covered_few entries anchors are is = let within = (orderly (records_of entries) are.order).within in omega (arith, within, entries_few entries, ap covered_by is)

pub accepted : (why : StoreError) (entries : List Entry) → InRecords entries → IfBad why (FirstBad [] entries) → why ≡ OutOfMemory
accepted (BadRecord i) entries are bad = absurd (not_bad [] entries i are bad)
accepted OutOfMemory entries are bad = refl

image_stands : {D : Type 0} (bytes : D → Option (List ℕ)) (images : D → List ℕ → Type 0) (j : JournalTold D) (b : Bool) → j.is_sure ≡ b → StandsNow bytes images j → InRecords j.entries
    → (j.is_sure ≡ false → InRecords (j.entries ++ j.flight)) → (c : List ℕ) → images j.disk c → StandsForRecords c
image_stands bytes images j true is now are flying c image = record { entries = j.entries; stands = now.sure is c image; records = are }
image_stands bytes images j false is now are flying c image = elim (now.either c image) [
  | inl stands ↦ record { entries = j.entries; stands = stands; records = are }
  | inr stands ↦ record { entries = j.entries ++ j.flight; stands = stands; records = flying is }
]

pub store_stands : {D : Type 0} (bytes : D → Option (List ℕ)) (images : D → List ℕ → Type 0) (j : JournalTold D) (held : HeldTold) → Keeps j held → StandsNow bytes images j
    → StoreStands bytes images (record { journal = j; records = records_of j.entries; spare = spare_in j held })
store_stands bytes images j held k now =
    let flying : j.is_sure ≡ false → InRecords (j.entries ++ j.flight) = λ unsure. records_append [] j.entries j.flight k.are (k.flying unsure).0 in
    record {
      journal = now;
      records = refl;
      are = k.are;
      flying = flying;
      each = image_stands bytes images j j.is_sure refl now k.are flying;
    }

-- the group in flight is taken in
taken : {D : Type 0} (bytes : D → Option (List ℕ)) (old new : JournalTold D) (held held' : HeldTold) (b : Bool) → old.is_sure ≡ b → Keeps old held → Refreshed bytes old new → (length new.entries ≡ length old.entries → ⊥)
    → ((kept flight : List Record) → Holds kept flight held → Holds (kept ++ flight) [] held') → Keeps new held'
taken bytes old new held held' true is k r more kept = absurd (more (ap (λ (j : JournalTold _). length j.entries) (r.already is)))
taken bytes old new held held' false is k r more kept = elim (r.decided is) [
  | inl same ↦ absurd (more (ap length same.0))
  | inr all ↦ record {
    are = subst InRecords (sym all.0) (records_append [] old.entries old.flight k.are (k.flying is).0);
    flight = [];
    holds = subst (λ (l : List Record). Holds l [] held')
        (ap (λ (l : List Record). records_of old.entries ++ l) (k.flying is).1 ∙ sym (map-append record_of old.entries old.flight) ∙ ap records_of (sym all.0)) (kept (records_of old.entries) k.flight k.holds);
    settled = λ sure. refl;
    flying = λ unsure. absurd (let h : true ≡ false = sym r.sure ∙ unsure in cc);
  }
]

pub taken_in : {D : Type 0} (bytes : D → Option (List ℕ)) (old new : JournalTold D) (held held' : HeldTold) → Keeps old held → Refreshed bytes old new → (length new.entries ≡ length old.entries → ⊥)
    → ((kept flight : List Record) → Holds kept flight held → Holds (kept ++ flight) [] held') → Keeps new held'
taken_in bytes old new held held' k r more kept = taken bytes old new held held' old.is_sure refl k r more kept

-- so many commitments are in memory
pub held_few : (entries group : List Entry) (held : HeldTold) → Holds (records_of entries) (records_of group) held → length (held.commitments.kept ++ held.commitments.flight) ≤ length (entries ++ group)
held_few entries group held h =
    omega (arith, length-append held.commitments.kept held.commitments.flight, ap length h.commitments, ap length h.commitments_flight, entries_few entries, entries_few group, length-append entries group)

taken_few : {D : Type 0} (bytes : D → Option (List ℕ)) (old new : JournalTold D) (held : HeldTold) (b : Bool) → old.is_sure ≡ b → Keeps old held → Refreshed bytes old new → (length new.entries ≡ length old.entries → ⊥)
    → length (held.commitments.kept ++ held.commitments.flight) ≤ length new.entries
taken_few bytes old new held true is k r more = absurd (more (ap (λ (j : JournalTold _). length j.entries) (r.already is)))
taken_few bytes old new held false is k r more = elim (r.decided is) [
  | inl same ↦ absurd (more (ap length same.0))
  | inr all ↦ let few = held_few old.entries old.flight held (subst (λ (l : List Record). Holds (records_of old.entries) l held) (k.flying is).1 k.holds) in omega (arith, few, ap length all.0)
]

pub taken_in_few : {D : Type 0} (bytes : D → Option (List ℕ)) (old new : JournalTold D) (held : HeldTold) → Keeps old held → Refreshed bytes old new → (length new.entries ≡ length old.entries → ⊥)
    → length (held.commitments.kept ++ held.commitments.flight) ≤ length new.entries
taken_in_few bytes old new held k r more = taken_few bytes old new held old.is_sure refl k r more

-- or it is not
no_more : (xs ys : List Entry) → length (xs ++ ys) ≡ length xs → xs ++ ys ≡ xs
no_more xs ys same = ap (λ (l : List Entry). xs ++ l) (nil_from_length ys (omega (arith, length-append xs ys))) ∙ append-nil xs

same_entries : {D : Type 0} (bytes : D → Option (List ℕ)) (old new : JournalTold D) (b : Bool) → old.is_sure ≡ b → Refreshed bytes old new → length new.entries ≡ length old.entries → new.entries ≡ old.entries
same_entries bytes old new true is r same = ap (λ (j : JournalTold _). j.entries) (r.already is)
same_entries bytes old new false is r same = elim (r.decided is) [
  | inl kept ↦ kept.0
  | inr all ↦ all.0 ∙ no_more old.entries old.flight (ap length (sym all.0) ∙ same)
]

pub left_out : {D : Type 0} (bytes : D → Option (List ℕ)) (old new : JournalTold D) (held held' : HeldTold) → Keeps old held → Refreshed bytes old new → length new.entries ≡ length old.entries
    → ((kept flight : List Record) → Holds kept flight held → Holds kept [] held') → Keeps new held'
left_out bytes old new held held' k r same forgotten =
    let entries = same_entries bytes old new old.is_sure refl r same in
    record {
      are = subst InRecords (sym entries) k.are;
      flight = [];
      holds = subst (λ (l : List Record). Holds l [] held') (ap records_of (sym entries)) (forgotten (records_of old.entries) k.flight k.holds);
      settled = λ sure. refl;
      flying = λ unsure. absurd (let h : true ≡ false = sym r.sure ∙ unsure in cc);
    }

-- the same records in memory, and a journal with more room
pub held_again : {D : Type 0} (j : JournalTold D) (held held' : HeldTold) → Keeps j held → ((kept flight : List Record) → Holds kept flight held → Holds kept flight held') → Keeps j held'
held_again j held held' k holds = record { are = k.are; flight = k.flight; holds = holds (records_of j.entries) k.flight k.holds; settled = k.settled; flying = k.flying }

pub room_keeps : {D : Type 0} (old new : JournalTold D) (held : HeldTold) → Keeps old held → MakesRoom old new → Keeps new held
room_keeps old new held k room = subst (λ (j : JournalTold _). Keeps j held) (sym room.same) (record { are = k.are; flight = k.flight; holds = k.holds; settled = k.settled; flying = k.flying })
