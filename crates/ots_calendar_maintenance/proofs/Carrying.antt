-- Entries carried over, group after group.
use Rattle.std.proofs.Common.{◌≡◌, ◌<◌, ◌≤◌, ◌⊎◌, inl, inr, ℕ, ◌+◌, ◌*◌, ◌-◌, true, List, [], ◌∷◌, ◌++◌, length, take, drop, min, refl, sym, ap, subst, ◌∙◌, arith, append_assoc, append-nil, length-append, length-drop, take-add}
use Rattle.std.specs.Prelude.{Result, Ok, Err, IsErrAnd, IsErrOf}
use Rattle.std.specs.List.{AllByRecursion}
use Rattle.std.proofs.lemmas.List.{drop-drop, map-append, take-append-drop, take_all}
use Rattle.std.proofs.lemmas.List.Concat.{flat_map-append}
use Rattle.ots_disk.specs.Disk.{LeavesOnly}
use Rattle.ots_disk.specs.Moments.{joined, started}
use Rattle.ots_journal.specs.declared.entry.Entry.{Entry}
use Rattle.ots_journal.specs.declared.errors.AppendError.{AppendError}
use Rattle.ots_journal.specs.declared.errors.AppendError.TheVariants as append
use Rattle.ots_journal.specs.Image.{FitsEntry, Stands, entries_bytes, entry_bytes}
use Rattle.ots_journal.specs.Journal.{JournalTold, size_with}
use Rattle.ots_store.specs.Order.{AreRecords, InOrder, records_of}
use Rattle.ots_store.specs.Records.{IsRecord, Record, record_of}
use Rattle.ots_store.specs.Store.{Added}
use Rattle.ots_calendar_maintenance.specs.Carrying.{CarriedTo, CarriedUpTo, CarriesOver, StandsToPrefix}
use Rattle.ots_calendar_maintenance.specs.Migrate.{group_at, size_at}

-- ---- records, a prefix and the rest

order_rest : (before xs ys : List Record) → InOrder before (xs ++ ys) → InOrder (before ++ xs) ys
order_rest before [] ys order = subst (λ (z : List Record). InOrder z ys) (sym (append-nil before)) order
order_rest before (x ∷ xs) ys order = subst (λ (z : List Record). InOrder z ys) (append_assoc before (x ∷ []) xs) (order_rest (before ++ x ∷ []) xs ys order.1)

order_prefix : (before xs ys : List Record) → InOrder before (xs ++ ys) → InOrder before xs
order_prefix before [] ys order = tt
order_prefix before (x ∷ xs) ys order = (order.0, order_prefix (before ++ x ∷ []) xs ys order.1)

each_rest : {A : Type 0} (P : A → Type 0) (xs ys : List A) → AllByRecursion P (xs ++ ys) → AllByRecursion P ys
each_rest P [] ys each = each
each_rest P (x ∷ xs) ys each = each_rest P xs ys each.1

each_prefix : {A : Type 0} (P : A → Type 0) (xs ys : List A) → AllByRecursion P (xs ++ ys) → AllByRecursion P xs
each_prefix P [] ys each = tt
each_prefix P (x ∷ xs) ys each = (each.0, each_prefix P xs ys each.1)

module _ (before : List Record) (xs ys all : List Entry) (whole : all ≡ xs ++ ys) (are : AreRecords before all) where
  order_split : InOrder before (records_of xs ++ records_of ys)
  order_split = subst (InOrder before) (ap records_of whole ∙ map-append record_of xs ys) are.order

  each_split : AllByRecursion IsRecord (xs ++ ys)
  each_split = subst (AllByRecursion IsRecord) whole are.each

  pub records_prefix : AreRecords before xs
  records_prefix = record { each = each_prefix IsRecord xs ys each_split; order = order_prefix before (records_of xs) (records_of ys) order_split }

  pub records_rest : AreRecords (before ++ records_of xs) ys
  records_rest = record { each = each_rest IsRecord xs ys each_split; order = order_rest before (records_of xs) (records_of ys) order_split }

pub fit_split : (all xs ys : List Entry) → all ≡ xs ++ ys → AllByRecursion FitsEntry all → AllByRecursion FitsEntry ys
fit_split all xs ys whole fit = each_rest FitsEntry xs ys (subst (AllByRecursion FitsEntry) whole fit)

-- ---- groups

-- a slice up to an end, as a group
pub group_is : (rest : List Entry) (place end k : ℕ) → place < length rest → place ≡ min (1024 * k) (length rest) → end ≡ min (length rest) (place + 1024)
    → take (end - place) (drop place rest) ≡ group_at rest k
group_is rest place end k less at is =
    let here : place ≡ 1024 * k = omega arith in
    let n = length (drop place rest) in
    let long : n ≡ length rest - place = length-drop place rest in
    both (drop place rest) (end - place) (omega (arith, long)) ∙ ap (λ (z : ℕ). take 1024 (drop z rest)) here
  where
    both : (xs : List Entry) (m : ℕ) → m ≡ min (length xs) 1024 → take m xs ≡ take 1024 xs
    both xs m is = pick xs m is (nat_le_or 1024 (length xs))
      where
        nat_le_or : (a b : ℕ) → (a ≤ b) ⊎ (b ≤ a)
        nat_le_or a b = grind arith

        pick : (xs : List Entry) (m : ℕ) → m ≡ min (length xs) 1024 → (1024 ≤ length xs) ⊎ (length xs ≤ 1024) → take m xs ≡ take 1024 xs
        pick xs m is (inl more) = let same : m ≡ 1024 = omega (arith, is, more) in ap (λ (z : ℕ). take z xs) same
        pick xs m is (inr few) = take_all m xs (omega (arith, is, few)) ∙ sym (take_all 1024 xs few)

next_prefix : (rest : List Entry) (k : ℕ) → take (1024 * (k + 1)) rest ≡ take (1024 * k) rest ++ group_at rest k
next_prefix rest k = let same : 1024 * (k + 1) ≡ 1024 * k + 1024 = omega arith in ap (λ (z : ℕ). take z rest) same ∙ take-add (1024 * k) 1024 rest

next_bytes : (rest : List Entry) (k : ℕ) → length (entries_bytes (take (1024 * (k + 1)) rest)) ≡ length (entries_bytes (take (1024 * k) rest)) + length (entries_bytes (group_at rest k))
next_bytes rest k =
    ap (λ (z : List Entry). length (entries_bytes z)) (next_prefix rest k)
    ∙ (ap length (flat_map-append entry_bytes (take (1024 * k) rest) (group_at rest k)) ∙ length-append (entries_bytes (take (1024 * k) rest)) (entries_bytes (group_at rest k)))

module _ {D : Type 0} (clock : D → ℕ) (images : D → List ℕ → Type 0) (images_since : D → ℕ → List ℕ → Type 0) (only_now : (d : D) (c : List ℕ) → images_since d (clock d) c → images d c) (rest : List Entry) (old : JournalTold D) where
  -- before the first
  pub none_carried : old.is_sure ≡ true → ((c : List ℕ) → images old.disk c → Stands c old.entries) → CarriedUpTo clock images images_since rest old old 0
  none_carried sure each = record {
    groups = 0;
    at = omega arith;
    carried = record {
      entries = sym (append-nil old.entries);
      gate = omega arith;
      fits = λ k less left. absurd (omega (arith, less));
      limit = refl;
      sure = sure;
      kept = each;
      moments = started clock images_since old.disk _ (λ c left. ([], rest, refl, subst (Stands c) (sym (append-nil old.entries)) (each c (only_now old.disk c left))));
    };
  }

  module _ (mid new : JournalTold D) (k : ℕ) (c : CarriedTo clock images images_since rest old mid k) where
    size_is : size_with mid.gate (group_at rest k) ≡ size_at old.gate rest k
    size_is = ap (λ (z : ℕ). size_with z (group_at rest k)) c.gate

    either_prefix : (b : List ℕ) → Stands b mid.entries ⊎ Stands b (mid.entries ++ group_at rest k) → StandsToPrefix old.entries rest b
    either_prefix b (inl s) = (take (1024 * k) rest, drop (1024 * k) rest, sym (take-append-drop (1024 * k) rest), subst (Stands b) c.entries s)
    either_prefix b (inr s) = (
      take (1024 * (k + 1)) rest,
      drop (1024 * (k + 1)) rest,
      sym (take-append-drop (1024 * (k + 1)) rest),
      subst (Stands b) (ap (λ (z : List Entry). z ++ group_at rest k) c.entries ∙ (append_assoc old.entries (take (1024 * k) rest) (group_at rest k) ∙ ap (λ (z : List Entry). old.entries ++ z) (sym (next_prefix rest k)))) s,
    )

    module _ {A : Type 0} (r : Result A AppendError) (a : Added clock images_since mid new (group_at rest k) r) where
      moments_on : LeavesOnly clock images_since old.disk new.disk (StandsToPrefix old.entries rest)
      moments_on = joined clock images_since old.disk mid.disk new.disk _ _ _ c.moments a.at_any_moment (λ b h. h) either_prefix

    -- one more
    pub one_carried : {A : Type 0} (x : A) → Added clock images_since mid new (group_at rest k) (Ok x) → ((b : List ℕ) → images new.disk b → Stands b new.entries)
        → CarriedTo clock images images_since rest old new (k + 1)
    one_carried {A} x a kept = record {
      entries = a.outcome.entries ∙ (ap (λ (z : List Entry). z ++ group_at rest k) c.entries ∙ (append_assoc old.entries (take (1024 * k) rest) (group_at rest k) ∙ ap (λ (z : List Entry). old.entries ++ z) (sym (next_prefix rest k))));
      gate = let g = a.outcome.gate in let was = c.gate in let bytes = next_bytes rest k in omega (arith, g, was, bytes);
      fits = λ j less left. fits_to j (split j less) left;
      limit = a.outcome.limit ∙ c.limit;
      sure = a.outcome.sure;
      kept = kept;
      moments = moments_on (Ok x) a;
    }
      where
        split : (j : ℕ) → j < k + 1 → (j < k) ⊎ (j ≡ k)
        split j less = grind arith

        over : mid.limit < size_with mid.gate (group_at rest k) → ⊥
        over long = elim (a.full long) [ inl e ↦ absurd cc | inr e ↦ absurd cc ]

        fits_to : (j : ℕ) → (j < k) ⊎ (j ≡ k) → 1024 * j < length rest → size_at old.gate rest j ≤ old.limit
        fits_to j (inl less) left = c.fits j less left
        fits_to j (inr is) left = subst (λ (z : ℕ). size_at old.gate rest z ≤ old.limit) (sym is) (let no = over in let l = c.limit in let s = size_is in omega (arith, no, l, s))

    -- or not
    pub not_carried : {A : Type 0} (disk : Type 0) (e : AppendError) → 1024 * k < length rest → Added {A = A} clock images_since mid new (group_at rest k) (Err e) → (e ≡ append.DiskFault → disk)
        → CarriesOver clock images images_since disk rest old new (Err e)
    not_carried disk append.DiskFault left a rose = (rose refl, moments_on (Err append.DiskFault) a)
    not_carried disk (append.Full need limit) left a rose = record {
      groups = k;
      left = left;
      carried = subst (λ (j : JournalTold D). CarriedTo clock images images_since rest old j k) (sym a.outcome.0) c;
      over = let l = c.limit in let s = size_is in let o = a.outcome.3 in omega (arith, l, s, o);
      need_is = a.outcome.1 ∙ size_is;
      limit_is = a.outcome.2 ∙ c.limit;
    }
    not_carried disk append.OutOfMemory left a rose = moments_on (Err append.OutOfMemory) a

-- an error that `?` made of one
pub carries_as : {D : Type 0} (clock : D → ℕ) (images : D → List ℕ → Type 0) (images_since : D → ℕ → List ℕ → Type 0) (disk : Type 0) (rest : List Entry) (old new : JournalTold D) (r : Result (Unit {0}) AppendError) (e : AppendError)
    → IsErrAnd r (λ x. x ≡ e) → CarriesOver clock images images_since disk rest old new (Err e) → CarriesOver clock images images_since disk rest old new r
carries_as clock images images_since disk rest old new (Ok x) e is h = absurd is
carries_as clock images images_since disk rest old new (Err x) e is h = subst (λ (z : AppendError). CarriesOver clock images images_since disk rest old new (Err z)) (sym is) h

-- what is left a group may follow it
pub next_records : (rest group : List Entry) (place end : ℕ) (records new_records : List Record) (entries new_entries : List Entry) → place ≤ end → AreRecords records (drop place rest)
    → group ≡ take (end - place) (drop place rest) → records ≡ records_of entries → new_records ≡ records_of new_entries → new_entries ≡ entries ++ group → AreRecords new_records (drop end rest)
next_records rest group place end records new_records entries new_entries le are is known new_known added =
    let left = drop (end - place) (drop place rest) in
    let then : AreRecords (records ++ records_of group) left = records_rest records group left (drop place rest) (sym (take-append-drop (end - place) (drop place rest)) ∙ ap (λ (z : List Entry). z ++ left) (sym is)) are in
    let same : new_records ≡ records ++ records_of group = new_known ∙ (ap records_of added ∙ (map-append record_of entries group ∙ ap (λ (z : List Record). z ++ records_of group) (sym known))) in
    subst (λ (z : List Record). AreRecords z (drop end rest)) (sym same)
    (subst (AreRecords (records ++ records_of group)) (drop-drop (end - place) place rest ∙ (let to_end : place + (end - place) ≡ end = omega (arith, le) in ap (λ (z : ℕ). drop z rest) to_end)) then)

-- the place after one group more
pub next_place : (rest : List Entry) (place end k : ℕ) → place < length rest → place ≡ min (1024 * k) (length rest) → end ≡ min (length rest) (place + 1024) → end ≡ min (1024 * (k + 1)) (length rest)
next_place rest place end k less at is = omega (arith, less, at, is)

pub left_here : (rest : List Entry) (place k : ℕ) → place < length rest → place ≡ min (1024 * k) (length rest) → 1024 * k < length rest
left_here rest place k less at = omega (arith, less, at)

pub none_left : (rest : List Entry) (place k : ℕ) → length rest ≤ place → place ≡ min (1024 * k) (length rest) → length rest ≤ 1024 * k
none_left rest place k all at = omega (arith, all, at)

pub fault_is : (e : AppendError) → e ≡ append.DiskFault → IsErrOf {T = Unit {0}} (Err e) append.DiskFault
fault_is e is = ap (λ (z : AppendError). let r : Result (Unit {0}) AppendError = Err z in r) is
