-- Numbers of the views, added up.
use Rattle.std.proofs.Common.{◌≡◌, ℕ, zero, suc, ◌+◌, ◌≤◌, ◌≢◌, List, [], ◌∷◌, ◌++◌, set, sym, refl, ap, arith}
use mathlib.Core.Option.{some, some-injective, some-ne-none}
use lib.ListN.{get_elem?}
use Rattle.ots_shared.specs.Rule.{total}
use Rattle.ots_shared.specs.declared.view.View.{View}

-- after a change of one view
pub total_set : (f : View → ℕ) (vs : List View) (i : ℕ) (v w : View) → get_elem? vs i ≡ some v → total f (set vs i w) + f v ≡ total f vs + f w
total_set f [] i v w e = absurd (some-ne-none v (sym e))
total_set f (x ∷ xs) zero v w e = let same : f x ≡ f v = ap f (some-injective x v e) in omega arith
total_set f (x ∷ xs) (suc i) v w e = let rest = total_set f xs i v w e in omega arith

-- with a new view
pub total_snoc : (f : View → ℕ) (vs : List View) (w : View) → total f (vs ++ w ∷ []) ≡ total f vs + f w
total_snoc f [] w = omega arith
total_snoc f (x ∷ xs) w = let rest = total_snoc f xs w in omega arith

-- of smaller numbers
pub total_le : (f g : View → ℕ) (vs : List View) → ((i : ℕ) (v : View) → get_elem? vs i ≡ some v → f v ≤ g v) → total f vs ≤ total g vs
total_le f g [] le = omega arith
total_le f g (x ∷ xs) le = let here : f x ≤ g x = le 0 x refl in let rest = total_le f g xs (λ i v e. le (suc i) v e) in omega arith

-- one view's part
pub total_one : (f : View → ℕ) (vs : List View) (i : ℕ) (v : View) → get_elem? vs i ≡ some v → f v ≤ total f vs
total_one f [] i v e = absurd (some-ne-none v (sym e))
total_one f (x ∷ xs) zero v e = let same : f x ≡ f v = ap f (some-injective x v e) in omega arith
total_one f (x ∷ xs) (suc i) v e = let rest = total_one f xs i v e in omega arith

-- two views' part
pub total_two : (f : View → ℕ) (vs : List View) (i j : ℕ) (v w : View) → i ≢ j → get_elem? vs i ≡ some v → get_elem? vs j ≡ some w → f v + f w ≤ total f vs
total_two f [] i j v w ne e d = absurd (some-ne-none v (sym e))
total_two f (x ∷ xs) zero zero v w ne e d = absurd (ne refl)
total_two f (x ∷ xs) zero (suc j) v w ne e d = let same : f x ≡ f v = ap f (some-injective x v e) in let rest = total_one f xs j w d in omega arith
total_two f (x ∷ xs) (suc i) zero v w ne e d = let same : f x ≡ f w = ap f (some-injective x w d) in let rest = total_one f xs i v e in omega arith
total_two f (x ∷ xs) (suc i) (suc j) v w ne e d = let rest = total_two f xs i j v w (λ h. ne (ap suc h)) e d in omega arith
