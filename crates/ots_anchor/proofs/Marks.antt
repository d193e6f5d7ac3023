-- The first root among several.
use Rattle.std.proofs.Common.{◌≡◌, ℕ, ◌+◌, ◌<◌, ◌≤◌, Bool, true, false, cond, List, length, nat_lt, Option, Some, None, refl, sym, subst, arith, inl, inr}
use Rattle.std.proofs.lemmas.Bool.{cases_lt, ltb-true, ltb-false}
use Rattle.memchr.specs.Find.{OccursAt, FindsNeedle}
use Rattle.ots_anchor.specs.declared.mark.Mark.{Mark}
use Rattle.ots_anchor.specs.Find.{root_of}
use Rattle.ots_anchor.specs.Mark.{IsMark, IsFirstAmong, IsMarkAmong, better}

-- a root that is not found stands nowhere
pub nowhere : (form root : List ℕ) → FindsNeedle form root 0 None → (p : ℕ) → OccursAt form root p → ⊥
nowhere form root finds p occurs = let fits = occurs.fits in finds p (omega arith) (omega arith) occurs

before : (form root : List ℕ) (k p : ℕ) → FindsNeedle form root 0 (Some k) → p < k → OccursAt form root p → ⊥
before form root k p finds less occurs = finds.0.before p (omega arith) less occurs

-- one root more is looked for
module _ (w : ℕ) (roots : List (List ℕ)) (form : List ℕ) where
  with_one : (P : ℕ → Type 0) (i : ℕ) → i < w + 1 → ((j : ℕ) → j < w → P j) → P w → P i
  with_one P i less lower here =
      elim (cases_lt i w) [
        | inl lt ↦ lower i lt
        | inr le ↦ (let is : w ≡ i = omega arith in subst P is here)
      ]

  keeps : (m : Mark) → IsFirstAmong w roots form m → ((p : ℕ) → p ≤ m.place → OccursAt form (root_of roots w) p → ⊥) → IsFirstAmong (w + 1) roots form m
  keeps m is none = record {
    root = let inside = is.root in omega arith;
    stands = is.stands;
    first = λ p i less below. with_one (λ j. OccursAt form (root_of roots j) p → ⊥) i below (λ j lt. is.first p j less lt) (none p (omega arith));
    last = λ j more below.
        with_one (λ k. m.which < k → root_of roots k ≡ root_of roots m.which → ⊥) j below (λ k lt after. is.last k after lt)
        (λ after same. none m.place (omega arith) (subst (λ (r : List ℕ). OccursAt form r m.place) (sym same) is.stands)) more;
  }

  takes : (k : ℕ) → FindsNeedle form (root_of roots w) 0 (Some k) → ((p i : ℕ) → p < k → i < w → OccursAt form (root_of roots i) p → ⊥)
      → IsFirstAmong (w + 1) roots form (record { which = w; place = k })
  takes k finds none = record {
    root = omega arith;
    stands = finds.1;
    first = λ p i less below. with_one (λ j. OccursAt form (root_of roots j) p → ⊥) i below (λ j lt. none p j less lt) (before form (root_of roots w) k p finds less);
    last = λ j more below same. absurd (omega arith);
  }

  by_place : (m : Mark) (k : ℕ) (less : Bool) → nat_lt m.place k ≡ less → IsFirstAmong w roots form m → FindsNeedle form (root_of roots w) 0 (Some k)
      → IsMarkAmong (w + 1) roots form (cond less (Some m) (Some (record { which = w; place = k })))
  by_place m k true e is finds =
      keeps m is (λ p upto. before form (root_of roots w) k p finds (let lt : m.place < k = ltb-true m.place k e in omega arith))
  by_place m k false e is finds =
      takes k finds (λ p i less below. is.first p i (let le : k ≤ m.place = ltb-false m.place k e in omega arith) below)

  pub better_is : (best : Option Mark) (place : Option ℕ) → IsMarkAmong w roots form best → FindsNeedle form (root_of roots w) 0 place
      → IsMarkAmong (w + 1) roots form (better best w place)
  better_is None None is finds =
      λ p i below. with_one (λ j. OccursAt form (root_of roots j) p → ⊥) i below (λ j lt. is p j lt) (nowhere form (root_of roots w) finds p)
  better_is None (Some k) is finds = takes k finds (λ p i less below. is p i below)
  better_is (Some m) None is finds = keeps m is (λ p upto. nowhere form (root_of roots w) finds p)
  better_is (Some m) (Some k) is finds = by_place m k (nat_lt m.place k) refl is finds

pub no_mark : (roots : List (List ℕ)) (form : List ℕ) → IsMarkAmong 0 roots form None
no_mark roots form p i below = absurd (omega arith)

pub mark_is : (n : ℕ) (roots : List (List ℕ)) (form : List ℕ) (m : Option Mark) → n ≡ length roots → IsMarkAmong n roots form m → IsMark roots form m
mark_is n roots form None all is = λ h. is h.place h.here.which (let inside = h.here.inside in omega arith) h.here.stands
mark_is n roots form (Some m) all is = record {
  root = let inside = is.root in omega arith;
  stands = is.stands;
  first = λ p less h. is.first p h.which less (let inside = h.inside in omega arith) h.stands;
  last = λ j more below. is.last j more (omega arith);
}
