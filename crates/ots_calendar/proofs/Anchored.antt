-- An anchor that is found may follow, has its form, and its root is right.
use Rattle.std.proofs.Common.{◌≡◌, inl, inr, ℕ, zero, suc, ◌+◌, ◌^◌, ◌<◌, ◌≤◌, Bool, true, false, cond, List, [], ◌∷◌, ◌++◌, length, take, drop, get_or, map, refl, sym, ap, subst, ◌∙◌, arith, append_assoc, take-append-drop, length-drop}
use Rattle.std.proofs.lemmas.Bool.{ltb-true}
use Rattle.std.proofs.lemmas.List.{length-map, length-take-le, drop-drop, get_or-drop, get_or-map, get_or-take}
use Rattle.std.proofs.lemmas.Option.{get_or_from_slice_get, slice_get_within, slice_get-get_or, slice_get_read}
use Rattle.std.specs.Prelude.{Some, slice_get, Result, Ok, Err, IfOk, OnOk}
use Rattle.std.specs.List.{AllByRecursion, filter}
use Rattle.memchr.specs.Find.{OccursAt}
use Rattle.ots_base.specs.declared.limits.TheConstants.{MAX_MESSAGE}
use Rattle.ots_headers.specs.DoubleSha256.{double_sha256}
use Rattle.ots_anchor.specs.declared.search.Found.{Found}
use Rattle.ots_anchor.specs.Find.{form_of, root_of, IsFound}
use Rattle.ots_anchor.specs.Path.{hashed}
use Rattle.ots_block.specs.Transaction.{Transaction, stripped, txid}
use Rattle.ots_block.specs.Block.{Contents, txids}
use Rattle.ots_merkle.specs.BlockTree.{block_root, block_branch, climbed}
use Rattle.ots_merkle.specs.CalendarTree.{root}
use Rattle.ots_merkle.proofs.Blocks.{branch_leads}
use Rattle.ots_journal.specs.declared.entry.Entry.{Entry}
use Rattle.ots_store.specs.declared.anchor.Anchor.{Anchor}
use Rattle.ots_store.specs.declared.tip.Tip.{Tip}
use Rattle.ots_store.specs.Order.{tip_in, commits_of, tips_of, tip_end, covered_of, HasSpan, FollowsAnchor, records_of}
use Rattle.ots_store.specs.Records.{Record, CommitRecord, TipRecord, AnchorRecord, record_of, HasForm, FitsTip, FitsAnchor, IsRecord}
use Rattle.ots_store.specs.Store.{InRecords}
use Rattle.ots_store.proofs.Tipped.{all_append}
use Rattle.ots_calendar.specs.Anchors.{reaches_past, open_tips, roots, anchor_of, FindsAnchor, MayStand}
use Rattle.ots_calendar.specs.declared.errors.AnchorError.{AnchorError}
use Rattle.ots_calendar.specs.Values.{span, IsTrue, IsTrueTip, IsTrueAnchor, AreTrue}
use Rattle.ots_calendar.proofs.Branches.{branch_is_short, branch_hashes, ids_hashes}

-- ---- tips that are stored

fits_in : (r : Record) → HasForm r → AllByRecursion FitsTip (tip_in r)
fits_in (CommitRecord c) form = tt
fits_in (TipRecord t) form = (form, tt)
fits_in (AnchorRecord a) form = tt

tips_fit : (entries : List Entry) → AllByRecursion IsRecord entries → AllByRecursion FitsTip (tips_of (records_of entries))
tips_fit [] each = tt
tips_fit (e ∷ entries) each = all_append FitsTip (tip_in (record_of e)) (tips_of (records_of entries)) (fits_in (record_of e) (each.0).form) (tips_fit entries each.1)

tips_true : (commits : List (List ℕ)) (records : List Record) → AllByRecursion (IsTrue commits) records → AllByRecursion (IsTrueTip commits) (tips_of records)
tips_true commits [] are = tt
tips_true commits (CommitRecord c ∷ records) are = tips_true commits records are.1
tips_true commits (TipRecord t ∷ records) are = (are.0, tips_true commits records are.1)
tips_true commits (AnchorRecord a ∷ records) are = tips_true commits records are.1

-- a tip among those that pass a test is one of the tips
pub record IsPassing (p : Tip → Bool) (P : Tip → Type 0) (tips : List Tip) (t : Tip) : Type 0 where
  pub passes : p t ≡ true
  pub has : P t
  pub there : HasSpan t.first t.count tips

later : (p : Tip → Bool) (P : Tip → Type 0) (x : Tip) (tips : List Tip) (t : Tip) → IsPassing p P tips t → IsPassing p P (x ∷ tips) t
later p P x tips t is = record { passes = is.passes; has = is.has; there = inr is.there }

passing_step : (b : Bool) (p : Tip → Bool) (P : Tip → Type 0) (x : Tip) (tips : List Tip) (k : ℕ) (t : Tip) → p x ≡ b → P x
    → ((j : ℕ) → slice_get (filter p tips) j ≡ Some t → IsPassing p P tips t) → slice_get (cond b (x ∷ filter p tips) (filter p tips)) k ≡ Some t → IsPassing p P (x ∷ tips) t
passing_step true p P x tips zero t at one rest is =
    let same : x ≡ t = cc in
    record { passes = ap p (sym same) ∙ at; has = subst P same one; there = inl (ap (λ (y : Tip). y.first) same, ap (λ (y : Tip). y.count) same) }
passing_step true p P x tips (suc k) t at one rest is = later p P x tips t (rest k is)
passing_step false p P x tips k t at one rest is = later p P x tips t (rest k is)

passing : (p : Tip → Bool) (P : Tip → Type 0) (tips : List Tip) (k : ℕ) (t : Tip) → AllByRecursion P tips → slice_get (filter p tips) k ≡ Some t → IsPassing p P tips t
passing p P [] k t all is = absurd (cc)
passing p P (x ∷ tips) k t all is = passing_step (p x) p P x tips k t refl all.0 (λ j. passing p P tips j t all.1) is

-- ---- a root that occurs in bytes

same_items : (xs ys : List ℕ) → length xs ≡ length ys → ((j : ℕ) → j < length ys → get_or xs j 0 ≡ get_or ys j 0) → xs ≡ ys
same_items [] [] long each = refl
same_items [] (y ∷ ys) long each = absurd (omega arith)
same_items (x ∷ xs) [] long each = absurd (omega arith)
same_items (x ∷ xs) (y ∷ ys) long each =
    (λ i. each 0 (omega arith) i ∷ same_items xs ys (omega arith) (λ j less. each (suc j) (omega arith)) i)

found_part : (hay needle : List ℕ) (k : ℕ) → OccursAt hay needle k → take (length needle) (drop k hay) ≡ needle
found_part hay needle k occurs =
    let fits = occurs.fits in
    same_items (take (length needle) (drop k hay)) needle (length-take-le (length needle) (drop k hay) (omega (arith, length-drop k hay)))
    (λ j less. get_or-take (length needle) (drop k hay) j 0 less ∙ get_or-drop k hay j 0 ∙ occurs.reads j less)

pub around : (hay needle : List ℕ) (k n : ℕ) → length needle ≡ n → OccursAt hay needle k → hay ≡ (take k hay ++ needle) ++ drop (k + n) hay
around hay needle k n long occurs =
    let rest : drop n (drop k hay) ≡ drop (k + n) hay = drop-drop n k hay in
    let part : take n (drop k hay) ≡ needle = ap (λ (m : ℕ). take m (drop k hay)) (sym long) ∙ found_part hay needle k occurs in
    sym (take-append-drop k hay) ∙ ap (λ (l : List ℕ). take k hay ++ l) (sym (take-append-drop n (drop k hay)) ∙ (λ i. part i ++ rest i))
    ∙ sym (append_assoc (take k hay) needle (drop (k + n) hay))

-- ---- the id of a transaction

id_at : (transactions : List Transaction) (t : ℕ) → t < length transactions → get_or (map txid transactions) t [] ≡ double_sha256 (get_or (map stripped transactions) t [])
id_at [] t less = absurd (omega arith)
id_at (x ∷ transactions) zero less = refl
id_at (x ∷ transactions) (suc t) less = id_at transactions t (omega arith)

root_at : (tips : List Tip) (k : ℕ) (t : Tip) → slice_get tips k ≡ Some t → root_of (roots tips) k ≡ t.root
root_at tips k t is = get_or-map (λ (x : Tip). x.root) tips k t [] (slice_get_within tips k t is) ∙ ap (λ (x : Tip). x.root) (get_or_from_slice_get tips k t t is)

-- ---- what a search finds

pub stands_within : (records : List Record) (entries : List Entry) (block : Contents) (all : List (List ℕ)) (f : Found) → records ≡ records_of entries → InRecords entries
    → all ≡ roots (open_tips records) → IsFound block all f → f.place + 32 ≤ length (form_of block f.transaction)
stands_within records entries block all f same are is found =
    let tips : List Tip = open_tips records in
    let there : IsFound block (roots tips) f = subst (λ (l : List (List ℕ)). IsFound block l f) is found in
    let less : f.which < length tips = omega (arith, there.mark.root, length-map tips (λ (x : Tip). x.root)) in
    let d : Tip = record { first = 0; count = 0; root = [] } in
    let at : slice_get tips f.which ≡ Some (get_or tips f.which d) = slice_get-get_or tips f.which d less in
    let fits : IsPassing (reaches_past (covered_of records)) FitsTip (tips_of records) (get_or tips f.which d) =
    passing (reaches_past (covered_of records)) FitsTip (tips_of records) f.which (get_or tips f.which d) (subst (λ (l : List Record). AllByRecursion FitsTip (tips_of l)) (sym same) (tips_fit entries are.each)) at in
    let long : length (root_of (roots tips) f.which) ≡ 32 = ap length (root_at tips f.which (get_or tips f.which d) at) ∙ fits.has.root in
    omega (arith, there.mark.stands.fits)

pub finds : (records : List Record) (block : Contents) (height : ℕ) (all : List (List ℕ)) (tips : List Tip) (f : Found) (t : Tip) (a : Anchor)
    → tips ≡ open_tips records → all ≡ roots (open_tips records) → IsFound block all f → t ≡ get_or tips f.which t → a ≡ anchor_of block height t f → FindsAnchor records block height a
finds records block height all tips f t a tips_are is found read made =
    let there : IsFound block (roots (open_tips records)) f = subst (λ (l : List (List ℕ)). IsFound block l f) is found in
    record {
      found = f;
      is_found = there;
      tip = t;
      tip_is = slice_get_read (open_tips records) (length (open_tips records)) f.which t refl (omega (arith, there.mark.root, length-map (open_tips records) (λ (x : Tip). x.root)))
          (read ∙ ap (λ (l : List Tip). get_or l f.which t) tips_are);
      anchor_is = made;
    }

-- ---- the whole

module _ (records : List Record) (entries : List Entry) (block : Contents) (height : ℕ) (a : Anchor)
    (same : records ≡ records_of entries) (are : InRecords entries) (is_true : AreTrue (records_of entries))
    (few : length (txids block) < 2 ^ 32) (high : height < 2 ^ 63) (good : block.header.root ≡ block_root (txids block)) (long : length block.header.root ≡ 32)
    (finds : FindsAnchor records block height a) where
  abbrev tip : Tip
  tip = finds.tip

  abbrev form : List ℕ
  form = form_of block finds.found.transaction

  fits : IsPassing (reaches_past (covered_of records)) FitsTip (tips_of records) tip
  fits = passing (reaches_past (covered_of records)) FitsTip (tips_of records) finds.found.which tip (subst (λ (l : List Record). AllByRecursion FitsTip (tips_of l)) (sym same) (tips_fit entries are.each)) finds.tip_is

  right : IsPassing (reaches_past (covered_of records)) (IsTrueTip (commits_of records)) (tips_of records) tip
  right =
      passing (reaches_past (covered_of records)) (IsTrueTip (commits_of records)) (tips_of records) finds.found.which tip
      (tips_true (commits_of records) records (subst AreTrue (sym same) is_true)) finds.tip_is

  occurs : OccursAt form tip.root finds.found.place
  occurs = subst (λ (l : List ℕ). OccursAt form l finds.found.place) (root_at (open_tips records) finds.found.which tip finds.tip_is) finds.is_found.mark.stands

  abbrev made : Anchor
  made = anchor_of block height tip finds.found

  within : finds.found.place + 32 ≤ length form
  within = let h = occurs.fits in omega (arith, fits.has.root)

  inside : finds.found.transaction < length (txids block)
  inside = let h = finds.is_found.short.inside in omega (arith, length-map block.transactions txid)

  follows : FollowsAnchor records made
  follows = record { tip = fits.there; past = ltb-true (covered_of records) (tip_end tip) fits.passes }

  has_form : FitsAnchor made
  has_form =
      let short = finds.is_found.short.short in
      record {
        first = fits.has.first;
        count = fits.has.count;
        height = high;
        root = long;
        message = let m : length (take finds.found.place form) + length (drop (finds.found.place + 32) form) + 32 ≤ MAX_MESSAGE =
            omega (arith, within, short, length-take-le finds.found.place form (omega (arith, within)), length-drop (finds.found.place + 32) form) in m;
        steps = branch_is_short (txids block) finds.found.transaction (omega arith);
        hashes = branch_hashes (txids block) finds.found.transaction (ids_hashes block) inside;
      }

  is_right : IsTrueAnchor (commits_of records) made
  is_right =
      let before : List ℕ = take finds.found.place form in
      let after : List ℕ = drop (finds.found.place + 32) form in
      let whole : form ≡ (before ++ root (hashed (span tip.first tip.count (commits_of records)))) ++ after =
      around form tip.root finds.found.place 32 fits.has.root occurs ∙ ap (λ (l : List ℕ). (before ++ l) ++ after) right.has in
      good ∙ sym (branch_leads (txids block) finds.found.transaction inside)
      ∙ ap (climbed (block_branch (txids block) finds.found.transaction)) (id_at block.transactions finds.found.transaction finds.is_found.short.inside ∙ ap double_sha256 whole)

  pub may_stand : MayStand records a
  may_stand = subst (MayStand records) (sym finds.anchor_is) (record { follows = follows; fits = has_form; is_true = is_right })

-- where one is found
pub all_may_stand : (records : List Record) (entries : List Entry) (block : Contents) (height : ℕ) (result : Result Anchor AnchorError)
    → records ≡ records_of entries → InRecords entries → AreTrue (records_of entries) → length (txids block) < 2 ^ 32 → height < 2 ^ 63 → block.header.root ≡ block_root (txids block)
    → OnOk result (length block.header.root ≡ 32) → IfOk result (FindsAnchor records block height) → IfOk result (MayStand records)
all_may_stand records entries block height (Ok a) same are is_true few high good long finds = may_stand records entries block height a same are is_true few high good long finds
all_may_stand records entries block height (Err e) same are is_true few high good long finds = tt
