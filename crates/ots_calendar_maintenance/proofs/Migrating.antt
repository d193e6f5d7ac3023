-- A journal of version 1, carried over.
use Rattle.std.proofs.Common.{◌≡◌, ◌≤◌, inl, inr, ℕ, ◌+◌, ◌*◌, ◌-◌, suc, List, [], ◌∷◌, ◌++◌, length, take, drop, Option, Some, refl, sym, ap, subst, ◌∙◌, arith, append_assoc, length-append}
use Rattle.std.specs.Prelude.{Result, Ok, Err, Vec, slice_get}
use Rattle.std.specs.declared.alloc.Global.{Global}
use Rattle.std.specs.List.{AllByRecursion}
use Rattle.std.proofs.lemmas.List.{drop_at, length-map, map-append, take-append-drop, take_all, take_more}
use Rattle.std.proofs.lemmas.Option.{slice_get_within, get_or_from_slice_get}
use Rattle.ots_disk.specs.Disk.{LeavesOnly}
use Rattle.ots_disk.specs.Moments.{started, weaker}
use Rattle.ots_journal.specs.declared.entry.Entry.{Entry}
use Rattle.ots_journal.specs.declared.errors.AppendError.{AppendError}
use Rattle.ots_journal.specs.declared.errors.AppendError.TheVariants as append
use Rattle.ots_journal.specs.Image.{FitsEntry, Stands}
use Rattle.ots_journal.specs.Journal.{JournalTold}
use Rattle.ots_journal.specs.Version1.{Stands1}
use Rattle.ots_store.specs.Order.{AreRecords, FirstBad, Follows, records_of}
use Rattle.ots_store.specs.Records.{Record, record_of}
use Rattle.ots_store.specs.Store.{InRecords}
use Rattle.ots_store.proofs.Ordered.{records_append}
use Rattle.ots_calendar_text.specs.declared.status.DaemonStatus.{DaemonStatus}
use Rattle.ots_calendar_text.specs.declared.status.DaemonStatus.TheVariants.{Full}
use Rattle.ots_calendar_maintenance.specs.declared.migrate_command.MigrateError.{MigrateError}
use Rattle.ots_calendar_maintenance.specs.declared.migrate_command.MigrateError.TheVariants.{BadRecord, NotPrefix, NotStored}
use Rattle.ots_outside.specs.Shelf.{Names}
use Rattle.ots_calendar_inputs.specs.Old.{AreOldEntries, GivesOld, RefusesOld}
use Rattle.ots_calendar_endings.specs.With.{WithInput, is_given, no_file, refuses}
use Rattle.ots_calendar_maintenance.specs.Carrying.{Carries, CarriesOver, IsPrefix, StandsToPrefix, migrate_ending}
use Rattle.ots_calendar_endings.specs.RunEnd.{Comes, as_defined, disk_failed, no_memory, RunEnd, Ends, declined, nowhere}
use Rattle.ots_calendar_maintenance.specs.Migrate.{AddsPrefix, FirstOther, MigrateAnswers, not_prefix, bad_record, carried, full}
use Rattle.ots_calendar_endings.specs.Moments.{StandsWith}
use Rattle.ots_calendar_endings.specs.Printed.{PrintsLast}

-- ---- the entries compared

pub same_prefix : (entries old : List Entry) (i : ℕ) (e : Entry) → take i entries ≡ take i old → slice_get entries i ≡ Some e → slice_get old i ≡ Some e → take (i + 1) entries ≡ take (i + 1) old
same_prefix entries old i e same here there = next entries here ∙ (ap (λ (z : List Entry). z ++ e ∷ []) same ∙ sym (next old there))
  where
    next : (xs : List Entry) → slice_get xs i ≡ Some e → take (i + 1) xs ≡ take i xs ++ e ∷ []
    next xs is = take_more xs i e (slice_get_within xs i e is) ∙ ap (λ (z : Entry). take i xs ++ z ∷ []) (get_or_from_slice_get xs i e e is)

pub all_same : (entries old : List Entry) (i : ℕ) → length entries ≤ i → take i entries ≡ take i old → IsPrefix entries old
all_same entries old i all same =
    let whole : entries ≡ take i old = sym (take_all i entries all) ∙ same in
    (drop i old, sym (take-append-drop i old) ∙ ap (λ (z : List Entry). z ++ drop i old) (sym whole))

pub other_here : (entries old : List Entry) (i : ℕ) (e : Entry) → take i entries ≡ take i old → slice_get entries i ≡ Some e → (slice_get old i ≡ Some e → ⊥) → FirstOther entries old i
other_here entries old i e same here other = record { there = slice_get_within entries i e here; same = same; other = λ is. other (sym is ∙ here) }

-- ---- bad records, counted over the whole list

after_get : (xs ys : List Entry) (j : ℕ) → slice_get (xs ++ ys) (length xs + j) ≡ slice_get ys j
after_get [] ys j = let here : length {A = Entry} [] + j ≡ j = omega arith in ap (slice_get ys) here
after_get (x ∷ xs) ys j =
    let next : length (x ∷ xs) + j ≡ suc (length xs + j) = omega arith in
    ap (slice_get ((x ∷ xs) ++ ys)) next ∙ after_get xs ys j

after_take : (xs ys : List Entry) (j : ℕ) → take (length xs + j) (xs ++ ys) ≡ xs ++ take j ys
after_take [] ys j = let here : length {A = Entry} [] + j ≡ j = omega arith in ap (λ (z : ℕ). take z ys) here
after_take (x ∷ xs) ys j =
    let next : length (x ∷ xs) + j ≡ suc (length xs + j) = omega arith in
    ap (λ (z : ℕ). take z ((x ∷ xs) ++ ys)) next ∙ ap (λ (z : List Entry). x ∷ z) (after_take xs ys j)

pub bad_after : (entries rest : List Entry) (j : ℕ) → InRecords entries → FirstBad (records_of entries) rest j → FirstBad [] (entries ++ rest) (length entries + j)
bad_after entries rest j are b = record {
  good = subst (AreRecords []) (sym (after_take entries rest j)) (records_append [] entries (take j rest) are b.good);
  there = let t = b.there in omega (arith, t, length-append entries rest);
  bad = λ e here is follows. b.bad e (sym (after_get entries rest j) ∙ here) is
      (subst (λ (z : List Record). Follows z (record_of e)) (ap records_of (after_take entries rest j) ∙ map-append record_of entries (take j rest)) follows);
}

pub all_after : (entries rest : List Entry) → InRecords entries → AreRecords (records_of entries) rest → InRecords (entries ++ rest)
all_after entries rest are then = records_append [] entries rest are then

-- ---- what it comes to

module _ {D : Type 0} (clock : D → ℕ) (images : D → List ℕ → Type 0) (images_since : D → ℕ → List ℕ → Type 0) (only_now : (d : D) (c : List ℕ) → images_since d (clock d) c → images d c) (disk : Type 0)
    (all : List Entry) (old : JournalTold D) (each : (c : List ℕ) → images old.disk c → Stands c old.entries) where
  abbrev Shown : JournalTold D → Result (Unit {0}) MigrateError → Type 0
  Shown new r = Carries clock images images_since disk all old new r

  still : LeavesOnly clock images_since old.disk old.disk (StandsWith (AddsPrefix all old.entries) old.entries)
  still = started clock images_since old.disk _ (λ c left. inl (each c (only_now old.disk c left)))

  pub is_other : (i : ℕ) → FirstOther old.entries all i → Shown old (Err (NotPrefix i))
  is_other i other = record { comes = as_defined (not_prefix i other refl); stand = each; moments = still }

  module _ (rest : List Entry) (whole : all ≡ old.entries ++ rest) where
    pub is_bad : (i : ℕ) → FirstBad [] all i → Shown old (Err (BadRecord i))
    is_bad i bad = record { comes = as_defined (bad_record rest whole i bad refl); stand = each; moments = still }

    module _ (new : JournalTold D) where
      prefixs : LeavesOnly clock images_since old.disk new.disk (StandsToPrefix old.entries rest) → LeavesOnly clock images_since old.disk new.disk (StandsWith (AddsPrefix all old.entries) old.entries)
      prefixs moments = weaker clock images_since old.disk new.disk _ _ moments (λ c s. inr (
        s.0,
        record {
          later = s.1;
          whole = whole ∙ (ap (λ (z : List Entry). old.entries ++ z) s.2 ∙ sym (append_assoc old.entries s.0 s.1));
        },
        s.3,
      ))

      pub not_stored : InRecords all → (e : AppendError) → CarriesOver clock images images_since disk rest old new (Err e) → Shown new (Err (NotStored e))
      not_stored are append.DiskFault (rose, moments) = record { comes = disk_failed rose refl; stand = tt; moments = prefixs moments }
      not_stored are (append.Full need limit) s = record {
        comes = as_defined (full rest whole are s.groups s.left s.carried.fits s.over
            (let entries = s.carried.entries in let need_is = s.need_is in let limit_is = s.limit_is in λ i. declined (entries i) (Full (need_is i) (limit_is i))));
        stand = s.carried.kept;
        moments = prefixs s.carried.moments;
      }
      not_stored are append.OutOfMemory moments = record { comes = no_memory refl; stand = tt; moments = prefixs moments }

      pub all_stored : InRecords all → (x : Unit {0}) → CarriesOver clock images images_since disk rest old new (Ok x) → Shown new (Ok x)
      all_stored are x (groups, long, c) =
          let entries : new.entries ≡ all = c.entries ∙ (ap (λ (z : List Entry). old.entries ++ z) (take_all (1024 * groups) rest long) ∙ sym whole) in
          record {
            comes = as_defined (carried rest whole are (λ k less left. c.fits k (omega (arith, long, left)) left) refl);
            stand = subst (λ (z : List Entry). (b : List ℕ) → images new.disk b → Stands b z) entries c.kept;
            moments = prefixs c.moments;
          }

-- the answer is printed
pub carry_printed : {D : Type 0} {clock : D → ℕ} {images : D → List ℕ → Type 0} {images_since : D → ℕ → List ℕ → Type 0} {disk : Type 0} {all : List Entry} {old new : JournalTold D} {a : Result (Unit {0}) MigrateError}
    {printing : Type 0} {taken now : Option (List ℕ)} {r : DaemonStatus} → Carries clock images images_since disk all old new a
    → PrintsLast printing (migrate_ending all new.entries a).status (migrate_ending all new.entries a).text taken now r
    → Ends (Comes (MigrateAnswers old.limit all old.gate old.entries) nowhere disk) (images new.disk) printing taken now r
carry_printed {all = all} {new = new} {a = a} h printed = record { ending = migrate_ending all new.entries a; comes = h.comes; stand = h.stand; printed = printed }

pub carry_within : (limit most : ℕ) (all : List Entry) (gate : ℕ) (entries : List Entry) (disk : Type 0) (images : List ℕ → Type 0) (printing : Type 0) (taken now : Option (List ℕ)) (r : DaemonStatus) → limit ≡ most
    → Ends (Comes (MigrateAnswers limit all gate entries) nowhere disk) images printing taken now r → Ends (Comes (MigrateAnswers most all gate entries) nowhere disk) images printing taken now r
carry_within limit most all gate entries disk images printing taken now r is h = subst (λ (z : ℕ). Ends (Comes (MigrateAnswers z all gate entries) nowhere disk) images printing taken now r) is h

-- its payloads are those that a group may have
stands_fit : (bytes : List ℕ) (entries : List Entry) → Stands1 bytes entries → AllByRecursion FitsEntry entries
stands_fit bytes entries (inl none) = subst (AllByRecursion FitsEntry) (sym none.1) tt
stands_fit bytes entries (inr long) = long.begins.fit

pub old_fits : (bytes : List ℕ) (entries : List Entry) → GivesOld bytes entries → AllByRecursion FitsEntry entries
old_fits bytes entries is = stands_fit bytes entries is.stand

-- ---- the entries that are missing, as a slice

module _ (entries all rest : List Entry) (whole : all ≡ entries ++ rest) (records : List Record) (known : records ≡ records_of entries) (held : ℕ) (many : held ≡ length records) where
  held_is : held ≡ length entries
  held_is = many ∙ (ap length known ∙ length-map entries record_of)

  slice_is : take (length all - held) (drop held all) ≡ rest
  slice_is =
      let back : drop held all ≡ rest = ap (drop held) whole ∙ drop_at entries rest held (sym held_is) in
      let n = held_is in
      ap (take (length all - held)) back ∙ take_all (length all - held) rest (omega (arith, n, ap length whole, length-append entries rest))

  pub bad_over : (j : ℕ) → InRecords entries → FirstBad records (take (length all - held) (drop held all)) j → FirstBad [] all (held + j)
  bad_over j are bad = subst (λ (z : ℕ). FirstBad [] all (z + j)) (sym held_is) (subst (λ (z : List Entry). FirstBad [] z (length entries + j)) (sym whole)
      (bad_after entries rest j are (subst (λ (z : List Entry). FirstBad (records_of entries) z j) slice_is (subst (λ (z : List Record). FirstBad z (take (length all - held) (drop held all)) j) known bad))))

  pub none_over : InRecords entries → AreRecords records (take (length all - held) (drop held all)) → InRecords all
  none_over are then = subst InRecords (sym whole)
      (all_after entries rest are (subst (AreRecords (records_of entries)) slice_is (subst (λ (z : List Record). AreRecords z (take (length all - held) (drop held all))) known then)))

  pub carries_rest : {D : Type 0} (clock : D → ℕ) (images : D → List ℕ → Type 0) (images_since : D → ℕ → List ℕ → Type 0) (disk : Type 0) (old new : JournalTold D) (r : Result (Unit {0}) AppendError)
      → CarriesOver clock images images_since disk (take (length all - held) (drop held all)) old new r → CarriesOver clock images images_since disk rest old new r
  carries_rest clock images images_since disk old new r c = subst (λ (z : List Entry). CarriesOver clock images images_since disk z old new r) slice_is c

-- a refusal of the old journal's file
pub as_old : (told : Option Names) (name : List ℕ) (goes_on : List Entry → RunEnd → Type 0) (e : RunEnd) → WithInput {A = Vec Entry Global} told name AreOldEntries RefusesOld (λ x e. ⊥) e → WithInput told name GivesOld RefusesOld goes_on e
as_old told name goes_on e (is_given x has goes) = absurd goes
as_old told name goes_on e (no_file under is) = no_file under is
as_old told name goes_on e (refuses s has is) = refuses s has is
