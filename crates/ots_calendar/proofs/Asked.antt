-- What is known of the records that are asked for.
use Rattle.std.proofs.Common.{◌≡◌, ℕ, suc, ◌+◌, ◌-◌, ◌<◌, ◌≤◌, Bool, true, false, cond, List, [], ◌∷◌, length, refl, sym, ap, subst, ◌∙◌, arith}
use Rattle.std.proofs.lemmas.Bool.{ltb-true, leb-true}
use Rattle.std.proofs.lemmas.Slice.Eq.{bytes_eq-Decides}
use Rattle.std.specs.Prelude.{Option, Some, None, find, nat_le, nat_lt, ◌&&◌}
use Rattle.std.specs.Option.{option_map}
use Rattle.std.specs.List.{AllByRecursion}
use Rattle.std.specs.Str.{bytes_eq}
use Rattle.ots_anchor.specs.Path.{complete_path, complete_way, hashed}
use Rattle.ots_journal.specs.declared.entry.Entry.{Entry}
use Rattle.ots_merkle.specs.CalendarTree.{path}
use Rattle.ots_ops.specs.declared.op.Op.{Op}
use Rattle.ots_store.specs.declared.anchor.Anchor.{Anchor}
use Rattle.ots_store.specs.Index.{least}
use Rattle.ots_store.specs.Order.{commit_in, anchor_in, commits_of, anchors_of, anchor_end, covered_by, covered_of, covers, records_of}
use Rattle.ots_store.specs.Records.{Record, CommitRecord, TipRecord, AnchorRecord, record_of, HasForm, IsRecord, FitsAnchor}
use Rattle.ots_store.specs.Store.{InRecords}
use Rattle.ots_calendar.specs.Answer.{way_in}
use Rattle.ots_calendar.specs.Values.{span}
use Rattle.ots_store.proofs.Ordered.{orderly}
use Rattle.ots_store.proofs.Tipped.{all_append}

abbrev pub IsLong : List ℕ → Type 0
IsLong commitment = length commitment ≡ 44

-- each commitment has 44 bytes
long_in : (r : Record) → HasForm r → AllByRecursion IsLong (commit_in r)
long_in (CommitRecord c) form = (form, tt)
long_in (TipRecord t) form = tt
long_in (AnchorRecord a) form = tt

pub all_long : (entries : List Entry) → AllByRecursion IsRecord entries → AllByRecursion IsLong (commits_of (records_of entries))
all_long [] each = tt
all_long (e ∷ entries) each = all_append IsLong (commit_in (record_of e)) (commits_of (records_of entries)) (long_in (record_of e) (each.0).form) (all_long entries each.1)

no_match : (b : Bool) (o : Option ℕ) → (b ≡ true → ⊥) → o ≡ None → cond b (Some 0) (option_map (λ i. suc i) o) ≡ None
no_match true o never none = absurd (never refl)
no_match false o never none = ap (option_map (λ i. suc i)) none

-- other bytes are none of them
pub least_none : (c : List ℕ) (commits : List (List ℕ)) → AllByRecursion IsLong commits → (length c ≡ 44 → ⊥) → least c commits ≡ None
least_none c [] all other = refl
least_none c (x ∷ commits) all other =
    no_match (bytes_eq x c) (least c commits) (λ same. other (ap length (sym ((bytes_eq-Decides x c).0 same)) ∙ all.0)) (least_none c commits all.1 other)

-- each anchor has its form, and ends by the commitments
fits_in : (r : Record) → HasForm r → AllByRecursion FitsAnchor (anchor_in r)
fits_in (CommitRecord c) form = tt
fits_in (TipRecord t) form = tt
fits_in (AnchorRecord a) form = (form, tt)

pub all_fit : (entries : List Entry) → AllByRecursion IsRecord entries → AllByRecursion FitsAnchor (anchors_of (records_of entries))
all_fit [] each = tt
all_fit (e ∷ entries) each = all_append FitsAnchor (anchor_in (record_of e)) (anchors_of (records_of entries)) (fits_in (record_of e) (each.0).form) (all_fit entries each.1)

abbrev pub EndsBy : ℕ → Anchor → Type 0
EndsBy n anchor = anchor_end anchor ≤ n

pub all_end : (n : ℕ) (anchors : List Anchor) → covered_by anchors ≤ n → AllByRecursion (EndsBy n) anchors
all_end n [] less = tt
all_end n (a ∷ anchors) less = (omega arith, all_end n anchors (omega arith))

-- what is found is one of them
found_at : (b : Bool) (P : Anchor → Type 0) (p : Anchor → Bool) (x a : Anchor) (anchors : List Anchor) → p x ≡ b → P x
    → (find p anchors ≡ Some a → P a × (p a ≡ true)) → cond b (Some x) (find p anchors) ≡ Some a → P a × (p a ≡ true)
found_at true P p x a anchors at is rest found = let same : x ≡ a = cc in (subst P same is, ap p (sym same) ∙ at)
found_at false P p x a anchors at is rest found = rest found

pub found_has : (P : Anchor → Type 0) (p : Anchor → Bool) (anchors : List Anchor) (a : Anchor) → AllByRecursion P anchors → find p anchors ≡ Some a → P a × (p a ≡ true)
found_has P p [] a all found = absurd (cc)
found_has P p (x ∷ anchors) a all found = found_at (p x) P p x a anchors refl all.0 (found_has P p anchors a all.1) found

both : (x y : Bool) → (x && y) ≡ true → (x ≡ true) × (y ≡ true)
both true y is = (refl, is)
both false y is = absurd (cc)

-- the first anchor that covers an index
pub record IsCovering (commits i : ℕ) (a : Anchor) : Type 0 where
  pub begins : a.first ≤ i
  pub ends : i < anchor_end a
  pub within : anchor_end a ≤ commits
  pub fits : FitsAnchor a

pub covering : (entries : List Entry) (i : ℕ) (a : Anchor) → AllByRecursion IsRecord entries → covered_by (anchors_of (records_of entries)) ≤ length (commits_of (records_of entries))
    → find (covers i) (anchors_of (records_of entries)) ≡ Some a → IsCovering (length (commits_of (records_of entries))) i a
covering entries i a each within found =
    let anchors : List Anchor = anchors_of (records_of entries) in
    let n : ℕ = length (commits_of (records_of entries)) in
    let fits = found_has FitsAnchor (covers i) anchors a (all_fit entries each) found in
    let ends = found_has (EndsBy n) (covers i) anchors a (all_end n anchors within) found in
    let range = both (nat_le a.first i) (nat_lt i (anchor_end a)) fits.1 in
    record { begins = leb-true a.first i range.0; ends = ltb-true i (anchor_end a) range.1; within = ends.0; fits = fits.0 }

pub covering_records : (records : List Record) (entries : List Entry) (i : ℕ) (a : Anchor) → records ≡ records_of entries → InRecords entries → find (covers i) (anchors_of records) ≡ Some a
    → IsCovering (length (commits_of records)) i a
covering_records records entries i a same are found =
    subst (λ (l : List Record). IsCovering (length (commits_of l)) i a) (sym same)
    (covering entries i a are.each (orderly (records_of entries) are.order).within (subst (λ (l : List Record). find (covers i) (anchors_of l) ≡ Some a) same found))

pub covered_within : (records : List Record) (entries : List Entry) → records ≡ records_of entries → InRecords entries → covered_of records ≤ length (commits_of records)
covered_within records entries same are = subst (λ (l : List Record). covered_of l ≤ length (commits_of l)) (sym same) (orderly (records_of entries) are.order).within

-- the way of a commitment, made of its path in the tree over the anchor's
pub way_is : (commits : List (List ℕ)) (i first end : ℕ) (a : Anchor) (way ops : List Op) → first ≡ a.first → end ≡ a.first + a.count → way ≡ path (hashed (span first (end - first) commits)) (i - first)
    → ops ≡ complete_way way a.prefix a.suffix a.branch → ops ≡ way_in commits i a
unfolding complete_path
way_is commits i first end a way ops begins ends path-is is =
    let count : end - first ≡ a.count = omega (arith, begins, ends) in
    is ∙ ap (λ (w : List Op). complete_way w a.prefix a.suffix a.branch) (path-is ∙ (λ j. path (hashed (span (begins j) (count j) commits)) (i - begins j)))
