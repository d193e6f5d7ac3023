-- A tip is anchored in a block in one way.
use Rattle.std.proofs.Common.{◌≡◌, ◌<◌, ◌≤◌, ℕ, ◌+◌, zero, suc, Bool, true, false, cond, List, [], ◌∷◌, ◌++◌, length, refl, sym, ap, subst, ◌∙◌, arith}
use Rattle.std.specs.Prelude.{Some, get_or, slice_get}
use Rattle.std.specs.List.{AllByRecursion, filter}
use Rattle.std.proofs.lemmas.List.{ext_get_or}
use Rattle.ots_block.specs.Block.{Contents, txids}
use Rattle.ots_merkle.specs.BlockTree.{block_root}
use Rattle.ots_anchor.specs.declared.search.Found.{Found}
use Rattle.ots_anchor.specs.declared.search.FindError.{FindError}
use Rattle.ots_anchor.specs.declared.search.FindError.TheVariants as find
use Rattle.ots_anchor.specs.Find.{HasRoot, IsFindError, IsFirstRoot, IsFound, IsTooLong, form_of, root_of}
use Rattle.ots_journal.specs.declared.entry.Entry.{Entry}
use Rattle.ots_journal.specs.Journal.{size_with}
use Rattle.ots_store.specs.declared.anchor.Anchor.{Anchor}
use Rattle.ots_store.specs.declared.tip.Tip.{Tip}
use Rattle.ots_store.specs.Order.{covered_of, records_of, tip_in, tips_of}
use Rattle.ots_store.specs.Records.{AnchorRecord, CommitRecord, FitsTip, HasForm, IsRecord, Record, TipRecord, record_of}
use Rattle.ots_store.specs.Store.{InRecords}
use Rattle.ots_store.proofs.Tipped.{all_append}
use Rattle.ots_calendar.specs.Anchors.{FindsAnchor, FindsNone, anchor_of, find_error, open_tips, reaches_past, roots}
use Rattle.ots_calendar.specs.declared.errors.AnchorError.{AnchorError}
use Rattle.ots_calendar_text.specs.declared.status.DaemonStatus.TheVariants.{BadRoot, Full}
use Rattle.ots_calendar_maintenance.specs.Anchor.{AnchorAnswers, IsOfBlock, anchor_entries, anchor_status, anchor_text}
use Rattle.ots_calendar_maintenance.specs.Anchor as anchor
use Rattle.ots_calendar_endings.specs.RunEnd.{RunEnd, declined, done}

-- ---- the roots have 32 bytes

tips_in_fit : (r : Record) → HasForm r → AllByRecursion FitsTip (tip_in r)
tips_in_fit (CommitRecord c) form = tt
tips_in_fit (TipRecord t) form = (form, tt)
tips_in_fit (AnchorRecord a) form = tt

tips_fit : (entries : List Entry) → AllByRecursion IsRecord entries → AllByRecursion FitsTip (tips_of (records_of entries))
tips_fit [] each = tt
tips_fit (e ∷ entries) each =
    all_append FitsTip (tip_in (record_of e)) (tips_of (records_of entries)) (tips_in_fit (record_of e) (each.0).form) (tips_fit entries each.1)

abbrev AreHashes : List (List ℕ) → Type 0
AreHashes all = (i : ℕ) → i < length all → length (root_of all i) ≡ 32

hashes_step : (b : Bool) (t : Tip) (tips : List Tip) → FitsTip t → AreHashes (roots tips) → AreHashes (roots (cond b (t ∷ tips) tips))
hashes_step true t tips fits rest zero less = fits.root
hashes_step true t tips fits rest (suc i) less = rest i (omega arith)
hashes_step false t tips fits rest i less = rest i less

hashes_of : (p : Tip → Bool) (tips : List Tip) → AllByRecursion FitsTip tips → AreHashes (roots (filter p tips))
hashes_of p [] all = λ i less. absurd (omega arith)
hashes_of p (t ∷ tips) all = hashes_step (p t) t (filter p tips) all.0 (hashes_of p tips all.1)

open_hashes : (entries : List Entry) → InRecords entries → AreHashes (roots (open_tips (records_of entries)))
open_hashes entries are = hashes_of (reaches_past (covered_of (records_of entries))) (tips_of (records_of entries)) (tips_fit entries are.each)

-- ---- a root is found in one place

has_root : (all : List (List ℕ)) (form : List ℕ) (which place : ℕ) → IsFirstRoot all form which place → HasRoot all form
has_root all form which place m = record { place = place; here = record { which = which; inside = m.root; stands = m.stands } }

module _ (all : List (List ℕ)) (form : List ℕ) (i j p q : ℕ) (f : IsFirstRoot all form i p) (g : IsFirstRoot all form j q) where
  one_place : p ≡ q
  one_place =
      let before_it : p < q → ⊥ = λ less. g.first p less (record { which = i; inside = f.root; stands = f.stands }) in
      let after_it : q < p → ⊥ = λ less. f.first q less (record { which = j; inside = g.root; stands = g.stands }) in
      omega (arith, before_it, after_it)

  -- two roots of 32 bytes that stand at one place are the same
  one_root : AreHashes all → root_of all i ≡ root_of all j
  one_root hashes =
      ext_get_or 0 (root_of all i) (root_of all j) (hashes i f.root ∙ sym (hashes j g.root))
      (λ k less. sym (f.stands.reads k less) ∙ ap (λ (n : ℕ). get_or form (n + k) 0) one_place ∙ g.stands.reads k (omega (arith, less, hashes i f.root, hashes j g.root)))

  one_index : AreHashes all → i ≡ j
  one_index hashes =
      let same : root_of all i ≡ root_of all j = one_root hashes in
      let before_it : i < j → ⊥ = λ less. f.last j less g.root (sym same) in
      let after_it : j < i → ⊥ = λ less. g.last i less f.root same in
      omega (arith, before_it, after_it)

one_transaction : (block : Contents) (all : List (List ℕ)) (f g : Found) → IsFound block all f → IsFound block all g → f.transaction ≡ g.transaction
one_transaction block all f g one two =
    let before_it : f.transaction < g.transaction → ⊥ = λ less.
    two.first f.transaction less one.short (has_root all (form_of block f.transaction) f.which f.place one.mark) in
    let after_it : g.transaction < f.transaction → ⊥ = λ less.
    one.first g.transaction less two.short (has_root all (form_of block g.transaction) g.which g.place two.mark) in
    omega (arith, before_it, after_it)

one_found : (block : Contents) (all : List (List ℕ)) (f g : Found) → AreHashes all → IsFound block all f → IsFound block all g → f ≡ g
one_found block all f g hashes one two =
    let t : f.transaction ≡ g.transaction = one_transaction block all f g one two in
    let form : List ℕ = form_of block f.transaction in
    let mark : IsFirstRoot all form g.which g.place = subst (λ (n : ℕ). IsFirstRoot all (form_of block n) g.which g.place) (sym t) two.mark in
    let which : f.which ≡ g.which = one_index all form f.which g.which f.place g.place one.mark mark hashes in
    let place : f.place ≡ g.place = one_place all form f.which g.which f.place g.place one.mark mark in
    (λ i. record { which = which i; transaction = t i; place = place i })

-- ---- that none is found is for one reason

found_or_not : (block : Contents) (all : List (List ℕ)) (f : Found) (e : FindError) → IsFound block all f → IsFindError block all e → IsOfBlock (find_error e) → ⊥
found_or_not block all f find.NoTip is none of =
    none f.transaction is.short.inside (has_root all (form_of block f.transaction) f.which f.place is.mark)
found_or_not block all f (find.TransactionTooLong n) is long of =
    long.none_short f.transaction is.short (has_root all (form_of block f.transaction) f.which f.place is.mark)
found_or_not block all f find.OutOfMemory is none of = of

one_length : (block : Contents) (all : List (List ℕ)) (n m : ℕ) → IsTooLong block all n → IsTooLong block all m → n ≡ m
one_length block all n m f g =
    let before_it : f.transaction < g.transaction → ⊥ = λ less. g.first f.transaction less f.holds in
    let after_it : g.transaction < f.transaction → ⊥ = λ less. f.first g.transaction less g.holds in
    let same : f.transaction ≡ g.transaction = omega (arith, before_it, after_it) in
    f.bytes ∙ ap (λ (t : ℕ). length (form_of block t)) same ∙ sym g.bytes

one_reason : (block : Contents) (all : List (List ℕ)) (d e : FindError) → IsFindError block all d → IsFindError block all e → IsOfBlock (find_error d) → IsOfBlock (find_error e)
    → d ≡ e
one_reason block all find.NoTip find.NoTip f g of also = refl
one_reason block all find.NoTip (find.TransactionTooLong m) f g of also = absurd (f g.transaction g.inside g.holds)
one_reason block all find.NoTip find.OutOfMemory f g of also = absurd also
one_reason block all (find.TransactionTooLong n) find.NoTip f g of also = absurd (g f.transaction f.inside f.holds)
one_reason block all (find.TransactionTooLong n) (find.TransactionTooLong m) f g of also =
    ap (λ (k : ℕ). let e : FindError = find.TransactionTooLong k in e) (one_length block all n m f g)
one_reason block all (find.TransactionTooLong n) find.OutOfMemory f g of also = absurd also
one_reason block all find.OutOfMemory e f g of also = absurd of

-- ---- what is answered

module _ (limit : ℕ) (block : Contents) (height gate : ℕ) (entries : List Entry) where
  abbrev records : List Record
  records = records_of entries

  finds_one : (a b : Anchor) → InRecords entries → FindsAnchor records block height a → FindsAnchor records block height b → a ≡ b
  finds_one a b are f g =
      let found : f.found ≡ g.found = one_found block (roots (open_tips records)) f.found g.found (open_hashes entries are) f.is_found g.is_found in
      let at : slice_get (open_tips records) g.found.which ≡ Some f.tip =
      subst (λ (z : Found). slice_get (open_tips records) z.which ≡ Some f.tip) found f.tip_is in
      let tips : f.tip ≡ g.tip = (let both : Some f.tip ≡ Some g.tip = sym at ∙ g.tip_is in cc) in
      f.anchor_is ∙ (λ i. anchor_of block height (tips i) (found i)) ∙ sym g.anchor_is

  finds_or_not : (a : Anchor) (e : AnchorError) → FindsAnchor records block height a → FindsNone records block e → IsOfBlock e → ⊥
  finds_or_not a e f g of = found_or_not block (roots (open_tips records)) f.found g.why f.is_found g.is_why (subst IsOfBlock g.error_is of)

  finds_none_once : (d e : AnchorError) → FindsNone records block d → FindsNone records block e → IsOfBlock d → IsOfBlock e → d ≡ e
  finds_none_once d e f g of also =
      f.error_is
      ∙ ap find_error (one_reason block (roots (open_tips records)) f.why g.why f.is_why g.is_why (subst IsOfBlock f.error_is of) (subst IsOfBlock g.error_is also))
      ∙ sym g.error_is

  where_bad : (e : RunEnd) → ¬ anchor.HasRoot block → AnchorAnswers limit block height gate entries e
      → e ≡ declined entries (BadRoot block.header.root (block_root (txids block)))
  where_bad e bad (anchor.bad_root bad' f) = f
  where_bad e bad (anchor.none_found good error none of f) = absurd (bad good)
  where_bad e bad (anchor.added good a finds fits f) = absurd (bad good)
  where_bad e bad (anchor.full good a finds long f) = absurd (bad good)

  where_none : (e : RunEnd) (error : AnchorError) → anchor.HasRoot block → FindsNone records block error → IsOfBlock error
      → AnchorAnswers limit block height gate entries e → e ≡ declined entries (anchor_status error)
  where_none e error good none of (anchor.bad_root bad f) = absurd (bad good)
  where_none e error good none of (anchor.none_found good' other none' of' f) =
      f ∙ ap (λ (z : AnchorError). declined entries (anchor_status z)) (finds_none_once other error none' none of' of)
  where_none e error good none of (anchor.added good' a finds fits f) = absurd (finds_or_not a error finds none of)
  where_none e error good none of (anchor.full good' a finds long f) = absurd (finds_or_not a error finds none of)

  where_added : (e : RunEnd) (a : Anchor) → InRecords entries → anchor.HasRoot block → FindsAnchor records block height a → size_with gate (anchor_entries a) ≤ limit
      → AnchorAnswers limit block height gate entries e → e ≡ done (entries ++ anchor_entries a) (anchor_text a)
  where_added e a are good finds fits (anchor.bad_root bad f) = absurd (bad good)
  where_added e a are good finds fits (anchor.none_found good' error none of f) = absurd (finds_or_not a error finds none of)
  where_added e a are good finds fits (anchor.added good' b finds' fits' f) =
      f ∙ ap (λ (z : Anchor). done (entries ++ anchor_entries z) (anchor_text z)) (finds_one b a are finds' finds)
  where_added e a are good finds fits (anchor.full good' b finds' long f) =
      absurd (omega (arith, fits, long, ap (λ (z : Anchor). size_with gate (anchor_entries z)) (finds_one b a are finds' finds)))

  where_full : (e : RunEnd) (a : Anchor) → InRecords entries → anchor.HasRoot block → FindsAnchor records block height a → limit < size_with gate (anchor_entries a)
      → AnchorAnswers limit block height gate entries e → e ≡ declined entries (Full (size_with gate (anchor_entries a)) limit)
  where_full e a are good finds long (anchor.bad_root bad f) = absurd (bad good)
  where_full e a are good finds long (anchor.none_found good' error none of f) = absurd (finds_or_not a error finds none of)
  where_full e a are good finds long (anchor.added good' b finds' fits f) =
      absurd (omega (arith, fits, long, ap (λ (z : Anchor). size_with gate (anchor_entries z)) (finds_one b a are finds' finds)))
  where_full e a are good finds long (anchor.full good' b finds' long' f) =
      f ∙ ap (λ (z : Anchor). declined entries (Full (size_with gate (anchor_entries z)) limit)) (finds_one b a are finds' finds)

  pub one_anchor : (d e : RunEnd) → InRecords entries → AnchorAnswers limit block height gate entries d → AnchorAnswers limit block height gate entries e → d ≡ e
  one_anchor d e are (anchor.bad_root bad f) h = f ∙ sym (where_bad e bad h)
  one_anchor d e are (anchor.none_found good error none of f) h = f ∙ sym (where_none e error good none of h)
  one_anchor d e are (anchor.added good a finds fits f) h = f ∙ sym (where_added e a are good finds fits h)
  one_anchor d e are (anchor.full good a finds long f) h = f ∙ sym (where_full e a are good finds long h)
