-- The order of texts, their ranks, and their places.
use Rattle.std.proofs.Common.{◌≡◌, ◌≢◌, ◌+◌, ◌<◌, ◌≤◌, ℕ, zero, suc, List, [], ◌∷◌, ◌++◌, length, take, get_or, refl, sym, ap, subst, ◌∙◌, arith, inl, inr, append_assoc, append-nil, length-append, cond, Option, Some, None}
use Rattle.std.specs.Cmp.Lexicographic.{slice_cmp}
use Rattle.std.specs.List.{count_by, slice_get}
use Rattle.std.specs.Ordering.{is_lt, nat_cmp, ordering_reverse, ordering_then}
use Rattle.std.specs.declared.cmp.Ordering.{Ordering}
use Rattle.std.specs.declared.cmp.Ordering.TheVariants.{Less, Equal, Greater}
use Rattle.std.proofs.lemmas.Bool.Decides.{nat_tests}
use Rattle.std.proofs.lemmas.Cmp.{nat_list_cmp_total, tied_itself}
use Rattle.std.proofs.lemmas.List.{get_or-take, length-take-le}
use Rattle.std.proofs.lemmas.List.Sums.{sum_by-cons}
use Rattle.std.proofs.lemmas.Option.{get_or_from_slice_get, slice_get_within}
use Rattle.ots_address.specs.declared.limits.TheConstants.{MAX_CALENDARS}
use Rattle.ots_calendar_url.specs.UrlList.{AreNext, AreUrls, IsNext}
use Rattle.ots_sheet.proofs.Words.{le_or_lt}
use Rattle.ots_request_set.specs.inner.Key.{is_before, rank_in}

-- ---- numbers

pub less_is : (x y : ℕ) → x < y → nat_cmp x y ≡ Less
less_is x y h = grind (arith, nat_tests)

pub more_is : (x y : ℕ) → y < x → nat_cmp x y ≡ Greater
more_is x y h = grind (arith, nat_tests)

pub same_is : (x : ℕ) → nat_cmp x x ≡ Equal
same_is x = grind (arith, nat_tests)

-- ---- texts

abbrev order : List ℕ → List ℕ → Ordering
order = slice_cmp nat_cmp

pub same_text : (a b : List ℕ) → order a b ≡ Equal → a ≡ b
same_text [] [] h = refl
same_text [] (y ∷ ys) h = absurd cc
same_text (x ∷ xs) [] h = absurd cc
same_text (x ∷ xs) (y ∷ ys) h = elim (le_or_lt y x) [
  | inr less ↦ let e : Less ≡ Equal = sym (ap (λ (o : Ordering). ordering_then o (order xs ys)) (less_is x y less)) ∙ h in absurd cc
  | inl le ↦ elim (le_or_lt x y) [
    | inr more ↦ let e : Greater ≡ Equal = sym (ap (λ (o : Ordering). ordering_then o (order xs ys)) (more_is x y more)) ∙ h in absurd cc
    | inl ge ↦
        let first : x ≡ y = omega (arith, le, ge) in
        let equal : nat_cmp x y ≡ Equal = ap (λ (z : ℕ). nat_cmp x z) (sym first) ∙ same_is x in
        let rest = same_text xs ys (sym (ap (λ (o : Ordering). ordering_then o (order xs ys)) equal) ∙ h) in λ i. first i ∷ rest i
  ]
]

pub turned : (a b : List ℕ) → order a b ≡ Greater → order b a ≡ Less
turned a b h = nat_list_cmp_total.antisymm b a ∙ ap ordering_reverse h

pub not_itself : (a : List ℕ) → order a a ≡ Less → ⊥
not_itself a h = let e : Less ≡ Equal = sym h ∙ tied_itself nat_list_cmp_total a in absurd cc

-- ---- ranks

one_up : (x t u : List ℕ) → order t u ≡ Less → cond (is_before x t) 1 0 ≤ cond (is_before x u) 1 0
one_up x t u h =
    elim (order x t) as (λ (o : Ordering). order x t ≡ o → cond (is_lt o) 1 0 ≤ cond (is_before x u) 1 0) [
      | Less ↦ λ e. let less = nat_list_cmp_total.trans x t u e h in omega (arith, ap {B = ℕ} (λ (o : Ordering). cond (is_lt o) 1 0) less)
      | Equal ↦ λ e. omega arith
      | Greater ↦ λ e. omega arith
    ] refl

rank_up : (texts : List (List ℕ)) (t u : List ℕ) → order t u ≡ Less → rank_in texts t ≤ rank_in texts u
rank_up [] t u h = omega arith
rank_up (x ∷ texts) t u h =
    omega (
      arith,
      sum_by-cons (λ (z : List ℕ). cond (is_before z t) 1 0) x texts,
      sum_by-cons (λ (z : List ℕ). cond (is_before z u) 1 0) x texts,
      one_up x t u h,
      rank_up texts t u h,
    )

pub some_same : {X : Type 0} (x y : X) → (let s : Option X = Some x in s) ≡ Some y → x ≡ y
some_same x y h = cc

rank_less : (texts : List (List ℕ)) (t u : List ℕ) (i : ℕ) → order t u ≡ Less → slice_get texts i ≡ Some t → rank_in texts t < rank_in texts u
rank_less [] t u i h at = absurd cc
rank_less (x ∷ texts) t u zero h at =
    let same : x ≡ t = some_same x t at in
    let none : order x t ≡ Equal = ap (λ (z : List ℕ). order z t) same ∙ tied_itself nat_list_cmp_total t in
    let some : order x u ≡ Less = ap (λ (z : List ℕ). order z u) same ∙ h in
    omega (
      arith,
      sum_by-cons (λ (z : List ℕ). cond (is_before z t) 1 0) x texts,
      sum_by-cons (λ (z : List ℕ). cond (is_before z u) 1 0) x texts,
      ap {B = ℕ} (λ (o : Ordering). cond (is_lt o) 1 0) none,
      ap {B = ℕ} (λ (o : Ordering). cond (is_lt o) 1 0) some,
      rank_up texts t u h,
    )
rank_less (x ∷ texts) t u (suc i) h at =
    omega (
      arith,
      sum_by-cons (λ (z : List ℕ). cond (is_before z t) 1 0) x texts,
      sum_by-cons (λ (z : List ℕ). cond (is_before z u) 1 0) x texts,
      one_up x t u h,
      rank_less texts t u i h at,
    )

-- the order of ranks is that of the texts
pub rank_order : (texts : List (List ℕ)) (t u : List ℕ) (i j : ℕ) → slice_get texts i ≡ Some t → slice_get texts j ≡ Some u
    → nat_cmp (rank_in texts t) (rank_in texts u) ≡ order t u
rank_order texts t u i j p q =
    elim (order t u) as (λ (o : Ordering). order t u ≡ o → nat_cmp (rank_in texts t) (rank_in texts u) ≡ o) [
      | Less ↦ λ e. less_is (rank_in texts t) (rank_in texts u) (rank_less texts t u i e p)
      | Equal ↦ λ e. subst (λ (z : List ℕ). nat_cmp (rank_in texts t) (rank_in texts z) ≡ Equal) (same_text t u e) (same_is (rank_in texts t))
      | Greater ↦ λ e. more_is (rank_in texts t) (rank_in texts u) (rank_less texts u t j (turned t u e) q)
    ] refl

-- ---- places

next_at : (before pieces : List (List ℕ)) (j : ℕ) (t : List ℕ) → AreNext before pieces → slice_get pieces j ≡ Some t → IsNext (before ++ take j pieces) t
next_at before [] j t good at = absurd cc
next_at before (p ∷ pieces) zero t good at =
    subst (λ (z : List (List ℕ)). IsNext z t) (sym (append-nil before)) (subst (IsNext before) (some_same p t at) good.0)
next_at before (p ∷ pieces) (suc j) t good at =
    subst (λ (z : List (List ℕ)). IsNext z t) (append_assoc before (p ∷ []) (take j pieces)) (next_at (before ++ p ∷ []) pieces j t good.1 at)

not_twice : (texts : List (List ℕ)) (i j : ℕ) (t : List ℕ) → AreUrls texts → i < j → slice_get texts i ≡ Some t → slice_get texts j ≡ Some t → ⊥
not_twice texts i j t good less p q =
    let within = slice_get_within texts j t q in
    (next_at [] texts j t good q).fresh i [] (omega (arith, less, within, length-take-le j texts (omega (arith, within))))
    (get_or-take j texts i [] less ∙ get_or_from_slice_get texts i t [] p)

-- a text stands at one place
pub one_place : (texts : List (List ℕ)) (i j : ℕ) (t : List ℕ) → AreUrls texts → slice_get texts i ≡ Some t → slice_get texts j ≡ Some t → i ≡ j
one_place texts i j t good p q = elim (le_or_lt j i) [
  | inr less ↦ absurd (not_twice texts i j t good less p q)
  | inl le ↦ elim (le_or_lt i j) [
    | inr more ↦ absurd (not_twice texts j i t good more q p)
    | inl ge ↦ omega (arith, le, ge)
  ]
]

few_from : (before : List (List ℕ)) (p : List ℕ) (pieces : List (List ℕ)) → AreNext before (p ∷ pieces) → length before + length (p ∷ pieces) ≤ MAX_CALENDARS
few_from before p [] good = let few = good.0.few in omega (arith, few)
few_from before p (q ∷ pieces) good = omega (arith, few_from (before ++ p ∷ []) q pieces good.1, length-append before (p ∷ []))

pub few : (texts : List (List ℕ)) → AreUrls texts → length texts ≤ MAX_CALENDARS
few [] good = omega arith
few (p ∷ pieces) good = omega (arith, few_from [] p pieces good)
