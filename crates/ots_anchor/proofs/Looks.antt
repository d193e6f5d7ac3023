-- What the transactions before an index hold.
use Rattle.std.proofs.Common.{◌≡◌, ℕ, ◌+◌, ◌<◌, ◌≤◌, List, length, Option, Some, None, Result, Ok, Err, refl, sym, ap, subst, ◌∙◌, arith, inl, inr}
use Rattle.std.specs.Prelude.{IfOk, IfErr}
use Rattle.std.proofs.lemmas.Bool.{cases_lt}
use Rattle.std.proofs.lemmas.List.{ext_get_or}
use Rattle.memchr.specs.Find.{OccursAt}
use Rattle.ots_base.specs.Memory.{UnlessOutOfMemory}
use Rattle.ots_block.specs.Block.{Contents}
use Rattle.ots_anchor.specs.declared.search.Found.{Found}
use Rattle.ots_anchor.specs.declared.search.FindError.{FindError}
use Rattle.ots_anchor.specs.declared.search.FindError.TheVariants.{NoTip, TransactionTooLong, OutOfMemory}
use Rattle.ots_anchor.specs.declared.search.Look.{Look}
use Rattle.ots_anchor.specs.declared.search.Look.TheVariants.{Nothing, Long, Short}
use Rattle.ots_anchor.specs.declared.mark.Mark.{Mark}
use Rattle.ots_anchor.specs.Find.{root_of, form_of, HasRoot, IsFirstRoot, IsShort, IsFound, HasNoTip, IsTooLong, IsFindError}
use Rattle.ots_anchor.specs.Look.{IsShortMark, IsLook, IsFirstLong, IsPast, long_after}

-- ---- one transaction more

module _ (c : Contents) (roots : List (List ℕ)) (i : ℕ) where
  with_one : (P : ℕ → Type 0) (t : ℕ) → t < i + 1 → ((s : ℕ) → s < i → P s) → P i → P t
  with_one P t less lower here =
      elim (cases_lt t i) [
        | inl lt ↦ lower t lt
        | inr le ↦ (let is : i ≡ t = omega arith in subst P is here)
      ]

  stays : (n : ℕ) → IsFirstLong c roots i n → IsFirstLong c roots (i + 1) n
  stays n l = record { transaction = l.transaction; before = (let b = l.before in omega arith); holds = l.holds; first = l.first; bytes = l.bytes }

  pub past_more : (long : Option ℕ) (look : Look) → ((m : Mark) → look ≡ Short m → ⊥) → IsPast c roots i long → IsLook c roots i look
      → IsPast c roots (i + 1) (long_after long look)
  past_more None Nothing other past is = record {
    none_short = λ t less short. with_one (λ s. IsShort c s → HasRoot roots (form_of c s) → ⊥) t less (λ s lt. past.none_short s lt) (λ short. is) short;
    first = λ t less. with_one (λ s. HasRoot roots (form_of c s) → ⊥) t less (λ s lt. past.first s lt) is;
  }
  past_more (Some n) Nothing other past is = record {
    none_short = λ t less short. with_one (λ s. IsShort c s → HasRoot roots (form_of c s) → ⊥) t less (λ s lt. past.none_short s lt) (λ short. is) short;
    first = stays n past.first;
  }
  past_more None (Long n) other past is = record {
    none_short = λ t less short. with_one (λ s. IsShort c s → HasRoot roots (form_of c s) → ⊥) t less (λ s lt. past.none_short s lt)
        (λ short holds. absurd (omega (arith, short.short, is.long))) short;
    first = record { transaction = i; before = omega arith; holds = is.holds; first = λ t less. past.first t less; bytes = is.bytes };
  }
  past_more (Some m) (Long n) other past is = record {
    none_short = λ t less short. with_one (λ s. IsShort c s → HasRoot roots (form_of c s) → ⊥) t less (λ s lt. past.none_short s lt)
        (λ short holds. absurd (omega (arith, short.short, is.long))) short;
    first = stays m past.first;
  }
  past_more long (Short m) other past is = absurd (other m refl)

pub past_none : (c : Contents) (roots : List (List ℕ)) → IsPast c roots 0 None
past_none c roots = record { none_short = λ t less. absurd (omega arith); first = λ t less. absurd (omega arith) }

-- ---- all are past, or one is found

pub found_here : (c : Contents) (roots : List (List ℕ)) (i : ℕ) (m : Mark) (long : Option ℕ) → i < length c.transactions → IsPast c roots i long → IsShortMark c roots i m
    → IsFound c roots (record { which = m.which; transaction = i; place = m.place })
found_here c roots i m long inside past is = record {
  short = record { inside = inside; short = is.short };
  first = past.none_short;
  mark = is.mark;
}

pub none_left : (c : Contents) (roots : List (List ℕ)) (i : ℕ) → length c.transactions ≤ i → IsPast c roots i None → HasNoTip c roots
none_left c roots i all past = λ t inside. past.first t (omega arith)

pub long_left : (c : Contents) (roots : List (List ℕ)) (i n : ℕ) → i ≤ length c.transactions → length c.transactions ≤ i → IsPast c roots i (Some n) → IsTooLong c roots n
long_left c roots i n upto all past =
    let l = past.first in
    record {
      transaction = l.transaction;
      inside = let b = l.before in omega arith;
      holds = l.holds;
      first = l.first;
      none_short = λ t short. past.none_short t (let inside = short.inside in omega arith) short;
      bytes = l.bytes;
    }

-- ---- there is one answer

-- two needles of the same length at one place are the same
same_needle : (form a b : List ℕ) (p : ℕ) → length a ≡ length b → OccursAt form a p → OccursAt form b p → a ≡ b
same_needle form a b p len x y = ext_get_or 0 a b len (λ j less. sym (x.reads j less) ∙ y.reads j (omega arith))

abbrev AreRoots : List (List ℕ) → Type 0
AreRoots roots = (i : ℕ) → i < length roots → length (root_of roots i) ≡ 32

holds : (c : Contents) (roots : List (List ℕ)) (f : Found) → IsFound c roots f → HasRoot roots (form_of c f.transaction)
holds c roots f is = record { place = f.place; here = record { which = f.which; inside = is.mark.root; stands = is.mark.stands } }

-- no found one is before another
not_before : (c : Contents) (roots : List (List ℕ)) (f g : Found) → IsFound c roots f → IsFound c roots g → f.transaction < g.transaction → ⊥
not_before c roots f g x y less = y.first f.transaction less x.short (holds c roots f x)

equal_by : (m n : ℕ) → (m < n → ⊥) → (n < m → ⊥) → m ≡ n
equal_by m n a b =
    elim (cases_lt m n) [
      | inl lt ↦ absurd (a lt)
      | inr le ↦ elim (cases_lt n m) [ inl lt ↦ absurd (b lt) | inr ge ↦ omega arith ]
    ]

-- in one transaction
module _ (roots : List (List ℕ)) (form : List ℕ) (roots_are : AreRoots roots) where
  not_earlier : (v w p q : ℕ) → IsFirstRoot roots form v p → IsFirstRoot roots form w q → p < q → ⊥
  not_earlier v w p q x y less = y.first p less (record { which = v; inside = x.root; stands = x.stands })

  not_less : (v w p q : ℕ) → IsFirstRoot roots form v p → IsFirstRoot roots form w q → p ≡ q → v < w → ⊥
  not_less v w p q x y same less =
      x.last w less y.root (same_needle form (root_of roots w) (root_of roots v) q (roots_are w y.root ∙ sym (roots_are v x.root)) y.stands
      (subst (λ (k : ℕ). OccursAt form (root_of roots v) k) same x.stands))

  one_mark : (v w p q : ℕ) → IsFirstRoot roots form v p → IsFirstRoot roots form w q → (v ≡ w) × (p ≡ q)
  one_mark v w p q x y =
      let place : p ≡ q = equal_by p q (not_earlier v w p q x y) (not_earlier w v q p y x) in
      (equal_by v w (not_less v w p q x y place) (not_less w v q p y x (sym place)), place)

one_found : (c : Contents) (roots : List (List ℕ)) (f g : Found) → AreRoots roots → IsFound c roots f → IsFound c roots g → f ≡ g
one_found c roots f g are x y =
    let t : f.transaction ≡ g.transaction = equal_by f.transaction g.transaction (not_before c roots f g x y) (not_before c roots g f y x) in
    let m = one_mark roots (form_of c g.transaction) are f.which g.which f.place g.place
    (subst (λ (k : ℕ). IsFirstRoot roots (form_of c k) f.which f.place) t x.mark) y.mark in
    λ j. record { which = m.0 j; transaction = t j; place = m.1 j }

pub finds_it : (c : Contents) (roots : List (List ℕ)) (r : Result Found FindError) (f : Found) → AreRoots roots → IfOk r (λ g. IsFound c roots g)
    → IfErr r (λ e. IsFindError c roots e) → IsFound c roots f → UnlessOutOfMemory OutOfMemory r (Ok f)
finds_it c roots (Ok g) f are ok err is short = ap (λ (k : Found). Ok k) (one_found c roots g f are ok is)
finds_it c roots (Err NoTip) f are ok err is short = absurd (err f.transaction is.short.inside (holds c roots f is))
finds_it c roots (Err (TransactionTooLong n)) f are ok err is short = absurd (err.none_short f.transaction is.short (holds c roots f is))
finds_it c roots (Err OutOfMemory) f are ok err is short = absurd (short refl)
