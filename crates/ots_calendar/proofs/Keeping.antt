-- What a book keeps, where its store is refreshed and where a record is added.
use Rattle.std.proofs.Common.{◌≡◌, inl, inr, ℕ, Bool, true, false, List, [], ◌∷◌, ◌++◌, refl, sym, ap, subst, ◌∙◌, length}
use Rattle.std.proofs.lemmas.List.{map-append, append-nil}
use Rattle.std.specs.Prelude.{Option, Result, Ok, Err, OnOk, OnErr}
use Rattle.ots_disk.specs.Disk.{LeavesOnly}
use Rattle.ots_disk.specs.Moments.{weaker, joined}
use Rattle.ots_journal.specs.declared.entry.Entry.{Entry}
use Rattle.ots_journal.specs.declared.errors.AppendError.{AppendError}
use Rattle.ots_journal.specs.declared.errors.AppendError.TheVariants.{DiskFault, Full, OutOfMemory}
use Rattle.ots_journal.specs.Journal.{JournalTold, StandsForEither, Refreshed, Unrefreshed}
use Rattle.ots_store.specs.declared.anchor.Anchor.{Anchor}
use Rattle.ots_store.specs.declared.tip.Tip.{Tip}
use Rattle.ots_store.specs.Order.{commits_of, records_of, Follows, FollowsTip, FollowsAnchor}
use Rattle.ots_store.specs.Records.{Record, CommitRecord, TipRecord, AnchorRecord, entry_of, record_of, FitsTip, FitsAnchor}
use Rattle.ots_store.specs.Store.{InRecords, StoreTold, StoreStands, Added, Adds, MakesRoom, with_room}
use Rattle.ots_store.proofs.Adding.{nothing_flies, room_leaves}
use Rattle.ots_store.proofs.Ordered.{commits_append, orderly, records_push}
use Rattle.ots_store.proofs.Spellings.{record_read, is_record}
use Rattle.ots_calendar.specs.Book.{StandsForBook, Keeps}
use Rattle.ots_calendar.specs.Values.{IsTrue, IsTrueTip, IsTrueAnchor, AreTrue}
use Rattle.ots_calendar.proofs.Truths.{true_push}

pub commits_more : (xs ys : List Entry) → commits_of (records_of (xs ++ ys)) ≡ commits_of (records_of xs) ++ commits_of (records_of ys)
commits_more xs ys = ap commits_of (map-append record_of xs ys) ∙ commits_append (records_of xs) (records_of ys)

pub true_entries : (entries : List Entry) (e : Entry) → InRecords entries → AreTrue (records_of entries) → IsTrue (commits_of (records_of entries)) (record_of e) → AreTrue (records_of (entries ++ e ∷ []))
true_entries entries e are is one =
    subst AreTrue (sym (map-append record_of entries (e ∷ []))) (true_push (records_of entries) (record_of e) (orderly (records_of entries) are.order) is one)

not_both : {A : Type 0} (b : Bool) → b ≡ true → b ≡ false → A
not_both b is not = absurd (let h : true ≡ false = sym is ∙ not in cc)

-- ---- a refresh

module _ {D : Type 0} (bytes : D → Option (List ℕ)) (old new : JournalTold D) (k : Keeps old) where
  kept_at : (b : Bool) → old.is_sure ≡ b → Refreshed bytes old new → Keeps new
  kept_at true sure r = subst (λ (j : JournalTold D). Keeps j) (sym (r.already sure)) k
  kept_at false unsure r = elim (r.decided unsure) [
    | inl same ↦ record {
      are_true = subst (λ (l : List Entry). AreTrue (records_of l)) (sym same.0) k.are_true;
      flying = λ un. not_both new.is_sure r.sure un;
    }
    | inr more ↦ record {
      are_true = subst (λ (l : List Entry). AreTrue (records_of l)) (sym more.0) (k.flying unsure);
      flying = λ un. not_both new.is_sure r.sure un;
    }
  ]

  -- whatever it answers
  pub refresh_keeps : {A E : Type 0} (result : Result A E) → OnOk result (Refreshed bytes old new) → OnErr result (Unrefreshed bytes old new) → Keeps new
  refresh_keeps (Ok x) ok err = kept_at old.is_sure refl ok
  refresh_keeps (Err e) ok err = subst (λ (j : JournalTold D). Keeps j) (sym err.same) (record { are_true = k.are_true; flying = k.flying })

-- a book can be opened on what stands for its records, or for these and others
either_books : (entries flight : List Entry) → InRecords entries → InRecords (entries ++ flight) → AreTrue (records_of entries) → AreTrue (records_of (entries ++ flight))
    → (c : List ℕ) → StandsForEither entries flight c → StandsForBook c
either_books entries flight are more is is_more c (inl stands) = record { entries = entries; stands = stands; records = are; are_true = is }
either_books entries flight are more is is_more c (inr stands) = record { entries = entries ++ flight; stands = stands; records = more; are_true = is_more }

module _ {D : Type 0} (bytes : D → Option (List ℕ)) (images : D → List ℕ → Type 0) (clock : D → ℕ) (since : D → ℕ → List ℕ → Type 0) (s : StoreTold D) (new : JournalTold D)
    (k : Keeps s.journal) (stands : StoreStands bytes images s) (run : LeavesOnly clock since s.journal.disk new.disk (StandsForEither s.journal.entries s.journal.flight)) where
  readable_at : (b : Bool) → s.journal.is_sure ≡ b → (s.journal.is_sure ≡ true → s.journal.flight ≡ []) → LeavesOnly clock since s.journal.disk new.disk StandsForBook
  readable_at true sure none =
      let same : s.journal.entries ++ s.journal.flight ≡ s.journal.entries = ap (λ (l : List Entry). s.journal.entries ++ l) (none sure) ∙ append-nil s.journal.entries in
      weaker clock since s.journal.disk new.disk (StandsForEither s.journal.entries s.journal.flight) StandsForBook run
      (either_books s.journal.entries s.journal.flight stands.are (subst InRecords (sym same) stands.are) k.are_true (subst (λ (l : List Entry). AreTrue (records_of l)) (sym same) k.are_true))
  readable_at false unsure none =
      weaker clock since s.journal.disk new.disk (StandsForEither s.journal.entries s.journal.flight) StandsForBook run
      (either_books s.journal.entries s.journal.flight stands.are (stands.flying unsure) k.are_true (k.flying unsure))

  pub refresh_readable : {A E : Type 0} (result : Result A E) → OnOk result (Refreshed bytes s.journal new) → OnErr result (Unrefreshed bytes s.journal new) → LeavesOnly clock since s.journal.disk new.disk StandsForBook
  refresh_readable (Ok x) ok err = readable_at s.journal.is_sure refl (nothing_flies bytes s.journal new ok)
  refresh_readable (Err e) ok err = readable_at s.journal.is_sure refl (λ sure. not_both s.journal.is_sure sure err.was_unsure)

-- ---- room

-- a store whose journal has so much room
abbrev roomy : {D : Type 0} → StoreTold D → ℕ → ℕ → StoreTold D
roomy s spare_entries spare_bytes = record s { journal = with_room s.journal spare_entries spare_bytes }

roomy_keeps : {D : Type 0} (j : JournalTold D) (spare_entries spare_bytes : ℕ) → Keeps j → Keeps (with_room j spare_entries spare_bytes)
roomy_keeps j spare_entries spare_bytes k = record { are_true = k.are_true; flying = k.flying }

roomy_stands : {D : Type 0} (bytes : D → Option (List ℕ)) (images : D → List ℕ → Type 0) (s : StoreTold D) (spare_entries spare_bytes : ℕ) → StoreStands bytes images s → StoreStands bytes images (roomy s spare_entries spare_bytes)
roomy_stands bytes images s spare_entries spare_bytes stands = record {
  journal = record { either = stands.journal.either; sure = stands.journal.sure; read = stands.journal.read; within = stands.journal.within };
  records = stands.records;
  are = stands.are;
  flying = stands.flying;
  each = stands.each;
}

pub room_keeps : {D : Type 0} (old new : JournalTold D) → Keeps old → MakesRoom old new → Keeps new
room_keeps old new k room = subst (λ (j : JournalTold _). Keeps j) (sym room.same) (roomy_keeps old new.spare_entries new.spare_bytes k)

module _ {D : Type 0} (bytes : D → Option (List ℕ)) (images : D → List ℕ → Type 0) (s : StoreTold D) (k : Keeps s.journal) (stands : StoreStands bytes images s) where
  image_at : (b : Bool) → s.journal.is_sure ≡ b → (c : List ℕ) → images s.journal.disk c → StandsForBook c
  image_at true sure c image = record { entries = s.journal.entries; stands = stands.journal.sure sure c image; records = stands.are; are_true = k.are_true }
  image_at false unsure c image = either_books s.journal.entries s.journal.flight stands.are (stands.flying unsure) k.are_true (k.flying unsure) c (stands.journal.either c image)

  -- where the disk is not called, a book can be opened on what it has
  pub room_readable : (clock : D → ℕ) (since : D → ℕ → List ℕ → Type 0) (only_now : (d : D) (c : List ℕ) → since d (clock d) c → images d c) (new : JournalTold D) → MakesRoom s.journal new
      → LeavesOnly clock since s.journal.disk new.disk StandsForBook
  room_readable clock since only_now new room = room_leaves clock images since only_now s.journal new StandsForBook room (image_at s.journal.is_sure refl)

-- a refresh in a journal in which room was made
module _ {D : Type 0} (bytes : D → Option (List ℕ)) (old new : JournalTold D) (spare_entries spare_bytes : ℕ) (k : Keeps old) where
  pub on_keeps : Refreshed bytes (with_room old spare_entries spare_bytes) new → Keeps new
  on_keeps r = refresh_keeps bytes (with_room old spare_entries spare_bytes) new (roomy_keeps old spare_entries spare_bytes k) {A = Unit {0}} {E = Unit {0}} (Ok tt) r tt

  pub off_keeps : Unrefreshed bytes (with_room old spare_entries spare_bytes) new → Keeps new
  off_keeps r = refresh_keeps bytes (with_room old spare_entries spare_bytes) new (roomy_keeps old spare_entries spare_bytes k) {A = Unit {0}} {E = Unit {0}} (Err tt) tt r

module _ {D : Type 0} (bytes : D → Option (List ℕ)) (images : D → List ℕ → Type 0) (clock : D → ℕ) (since : D → ℕ → List ℕ → Type 0) (s : StoreTold D) (new : JournalTold D)
    (k : Keeps s.journal) (stands : StoreStands bytes images s) (spare_entries spare_bytes : ℕ) (run : LeavesOnly clock since s.journal.disk new.disk (StandsForEither s.journal.entries s.journal.flight)) where
  pub on_readable : Refreshed bytes (with_room s.journal spare_entries spare_bytes) new → LeavesOnly clock since s.journal.disk new.disk StandsForBook
  on_readable r =
      refresh_readable bytes images clock since (roomy s spare_entries spare_bytes) new (roomy_keeps s.journal spare_entries spare_bytes k) (roomy_stands bytes images s spare_entries spare_bytes stands) run
      {A = Unit {0}} {E = Unit {0}} (Ok tt) r tt

  pub off_readable : Unrefreshed bytes (with_room s.journal spare_entries spare_bytes) new → LeavesOnly clock since s.journal.disk new.disk StandsForBook
  off_readable r =
      refresh_readable bytes images clock since (roomy s spare_entries spare_bytes) new (roomy_keeps s.journal spare_entries spare_bytes k) (roomy_stands bytes images s spare_entries spare_bytes stands) run
      {A = Unit {0}} {E = Unit {0}} (Err tt) tt r

-- ---- a record more

module _ {D A : Type 0} (clock : D → ℕ) (since : D → ℕ → List ℕ → Type 0) (old new : JournalTold D) (e : Entry)
    (sure : old.is_sure ≡ true) (are : InRecords old.entries) (k : Keeps old) (one : IsTrue (commits_of (records_of old.entries)) (record_of e)) where
  pub add_keeps : (result : Result A AppendError) → Added clock since old new (e ∷ []) result → Keeps new
  add_keeps (Ok x) added =
      let put = added.outcome in
      record {
        are_true = subst (λ (l : List Entry). AreTrue (records_of l)) (sym put.entries) (true_entries old.entries e are k.are_true one);
        flying = λ un. not_both new.is_sure put.sure un;
      }
  add_keeps (Err DiskFault) added =
      let flies = added.outcome in
      record {
        are_true = subst (λ (l : List Entry). AreTrue (records_of l)) (sym flies.entries) k.are_true;
        flying = λ un. subst (λ (l : List Entry). AreTrue (records_of l)) (λ i. (sym flies.entries) i ++ (sym flies.flight) i) (true_entries old.entries e are k.are_true one);
      }
  add_keeps (Err (Full need limit)) added = subst (λ (j : JournalTold D). Keeps j) (sym added.outcome.0) k
  add_keeps (Err OutOfMemory) added = subst (λ (j : JournalTold D). Keeps j) (sym added.outcome) k

  pub add_readable : (result : Result A AppendError) → InRecords (old.entries ++ e ∷ []) → Added clock since old new (e ∷ []) result → LeavesOnly clock since old.disk new.disk StandsForBook
  add_readable result more added =
      weaker clock since old.disk new.disk (StandsForEither old.entries (e ∷ [])) StandsForBook added.at_any_moment
      (either_books old.entries (e ∷ []) are more k.are_true (true_entries old.entries e are k.are_true one))

-- a tip more, by the records that the store tells
pub tip_more : (records : List Record) (entries : List Entry) (tip : Tip) → records ≡ records_of entries → FitsTip tip → IsTrueTip (commits_of records) tip
    → IsTrue (commits_of (records_of entries)) (record_of (entry_of (TipRecord tip)))
tip_more records entries tip same fits is =
    subst (IsTrue (commits_of (records_of entries))) (sym (record_read (TipRecord tip) fits)) (subst (λ (l : List Record). IsTrueTip (commits_of l) tip) same is)

pub tip_records : (records : List Record) (entries : List Entry) (tip : Tip) → records ≡ records_of entries → InRecords entries → FitsTip tip → FollowsTip records tip → InRecords (entries ++ entry_of (TipRecord tip) ∷ [])
tip_records records entries tip same are fits follows =
    records_push [] entries (entry_of (TipRecord tip)) are (is_record (TipRecord tip) fits)
    (subst (Follows (records_of entries)) (sym (record_read (TipRecord tip) fits)) (subst (λ (l : List Record). FollowsTip l tip) same follows))

-- an anchor more
pub anchor_more : (records : List Record) (entries : List Entry) (a : Anchor) → records ≡ records_of entries → FitsAnchor a → IsTrueAnchor (commits_of records) a
    → IsTrue (commits_of (records_of entries)) (record_of (entry_of (AnchorRecord a)))
anchor_more records entries a same fits is =
    subst (IsTrue (commits_of (records_of entries))) (sym (record_read (AnchorRecord a) fits)) (subst (λ (l : List Record). IsTrueAnchor (commits_of l) a) same is)

pub anchor_records : (records : List Record) (entries : List Entry) (a : Anchor) → records ≡ records_of entries → InRecords entries → FitsAnchor a → FollowsAnchor records a → InRecords (entries ++ entry_of (AnchorRecord a) ∷ [])
anchor_records records entries a same are fits follows =
    records_push [] entries (entry_of (AnchorRecord a)) are (is_record (AnchorRecord a) fits)
    (subst (Follows (records_of entries)) (sym (record_read (AnchorRecord a) fits)) (subst (λ (l : List Record). FollowsAnchor l a) same follows))

-- ---- a commitment more, after a refresh

found_at : {D : Type 0} (bytes : D → Option (List ℕ)) (images : D → List ℕ → Type 0) (s : StoreTold D) (mid : JournalTold D) (spare_entries spare_bytes : ℕ) (b : Bool) → StoreStands bytes images s → s.journal.is_sure ≡ b
    → Refreshed bytes (with_room s.journal spare_entries spare_bytes) mid → InRecords mid.entries
found_at bytes images s mid spare_entries spare_bytes true stands sure r = subst (λ (j : JournalTold _). InRecords j.entries) (sym (r.already sure)) stands.are
found_at bytes images s mid spare_entries spare_bytes false stands unsure r = elim (r.decided unsure) [
  | inl same ↦ subst InRecords (sym same.0) stands.are
  | inr more ↦ subst InRecords (sym more.0) (stands.flying unsure)
]

commit_follows : (c : List ℕ) (entries : List Entry) → length c ≡ 44 → InRecords entries → InRecords (entries ++ entry_of (CommitRecord c) ∷ [])
commit_follows c entries long are = records_push [] entries (entry_of (CommitRecord c)) are (is_record (CommitRecord c) long) tt

module _ {D A : Type 0} (bytes : D → Option (List ℕ)) (images : D → List ℕ → Type 0) (clock : D → ℕ) (since : D → ℕ → List ℕ → Type 0) (s : StoreTold D) (new : JournalTold D) (c : List ℕ)
    (k : Keeps s.journal) (stands : StoreStands bytes images s) where
  pub adds_keeps : (result : Result A AppendError) → Adds bytes clock since s.journal new (entry_of (CommitRecord c) ∷ []) result → Keeps new
  adds_keeps result (inl after) =
      let mid : Keeps after.mid = on_keeps bytes s.journal after.mid after.spare_entries after.spare_bytes k after.refreshed in
      add_keeps clock since after.mid new (entry_of (CommitRecord c)) after.refreshed.sure (found_at bytes images s after.mid after.spare_entries after.spare_bytes s.journal.is_sure stands refl after.refreshed) mid tt result after.added
  adds_keeps result (inr (inl nothing)) = off_keeps bytes s.journal new nothing.spare_entries nothing.spare_bytes k nothing.unrefreshed
  adds_keeps result (inr (inr untouched)) = room_keeps s.journal new k untouched.room

  pub adds_readable : (only_now : (d : D) (f : List ℕ) → since d (clock d) f → images d f) (result : Result A AppendError) → length c ≡ 44 → Adds bytes clock since s.journal new (entry_of (CommitRecord c) ∷ []) result → LeavesOnly clock since s.journal.disk new.disk StandsForBook
  adds_readable only_now result long (inl after) =
      let mid : Keeps after.mid = on_keeps bytes s.journal after.mid after.spare_entries after.spare_bytes k after.refreshed in
      let are : InRecords after.mid.entries = found_at bytes images s after.mid after.spare_entries after.spare_bytes s.journal.is_sure stands refl after.refreshed in
      joined clock since s.journal.disk after.mid.disk new.disk StandsForBook StandsForBook StandsForBook
      (on_readable bytes images clock since s after.mid k stands after.spare_entries after.spare_bytes after.refreshing after.refreshed)
      (add_readable clock since after.mid new (entry_of (CommitRecord c)) after.refreshed.sure are mid tt result (commit_follows c after.mid.entries long are) after.added) (λ b h. h) (λ b h. h)
  adds_readable only_now result long (inr (inl nothing)) = off_readable bytes images clock since s new k stands nothing.spare_entries nothing.spare_bytes nothing.refreshing nothing.unrefreshed
  adds_readable only_now result long (inr (inr untouched)) = room_readable bytes images s k stands clock since only_now new untouched.room
