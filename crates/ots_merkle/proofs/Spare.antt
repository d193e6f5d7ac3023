-- How many pushes can't be refused.
use Rattle.std.proofs.Common.{◌≡◌, ℕ, ◌+◌, ◌-◌, ◌^◌, ◌<◌, ◌≤◌, List, [], ◌∷◌, ◌++◌, length, nat_lt, Bool, true, false, Option, refl, arith, length-append, inl, inr}
use Rattle.std.specs.Prelude.{◌⊎◌}
use Rattle.std.specs.Option.{is_none}
use Rattle.std.specs.List.{list_any}
use Rattle.std.proofs.lemmas.Bool.{ltb-true, ltb-false}
use Rattle.std.proofs.lemmas.Nat.{pow-add}
use Rattle.std.proofs.Math.Pow.{pow_mono}
use Rattle.ots_merkle.specs.Row.{all_added}
use Rattle.ots_merkle.proofs.Rows.{Stands, stands_for, fits_row, fills_row}

-- where the capacity is no less
pub spare_kept : (cap cap′ n : ℕ) → cap ≤ cap′ → 2 ^ cap - 1 - n ≤ 2 ^ cap′ - 1 - n
spare_kept cap cap′ n more = omega (arith, pow_mono {i = cap} {j = cap′} more)

pub one_less : (cap cap′ : ℕ) (leaves : List (List ℕ)) (leaf : List ℕ) → cap ≤ cap′
    → 2 ^ cap - 1 - length leaves ≤ 2 ^ cap′ - 1 - length (leaves ++ leaf ∷ []) + 1
one_less cap cap′ leaves leaf more = omega (arith, pow_mono {i = cap} {j = cap′} more, length-append leaves (leaf ∷ []))

below_by : (a b : ℕ) (less : Bool) → nat_lt a b ≡ less → 2 ^ a < 2 ^ b → a < b
below_by a b true e h = ltb-true a b e
below_by a b false e h = absurd (let le : b ≤ a = ltb-false a b e in omega (arith, pow_mono {i = b} {j = a} le))

below : (a b : ℕ) → 2 ^ a < 2 ^ b → a < b
below a b h = below_by a b (nat_lt a b) refl h

fits_by : (row : List (Option (List ℕ))) (leaves : List (List ℕ)) (cap : ℕ) (room : Bool) → list_any is_none row ≡ room → Stands 0 row leaves
    → 0 < 2 ^ cap - 1 - length leaves → (list_any is_none row ≡ true) ⊎ (length row < cap)
fits_by row leaves cap true e s spare = inl e
fits_by row leaves cap false e s spare =
    let all : length leaves + 1 ≡ 2 ^ (0 + length row) = fills_row 0 row leaves s e in
    let less : 0 + length row < cap = below (0 + length row) cap (omega arith) in
    inr (omega arith)

-- a spare push has a free place, or room for one
pub push_fits : (row : List (Option (List ℕ))) (leaves : List (List ℕ)) (cap : ℕ) → row ≡ all_added [] leaves → 0 < 2 ^ cap - 1 - length leaves
    → (list_any is_none row ≡ true) ⊎ (length row < cap)
push_fits row leaves cap e spare = rw e (fits_by (all_added [] leaves) leaves cap (list_any is_none (all_added [] leaves)) refl (stands_for 0 leaves) spare)

-- 65 places more are enough for as many pushes as 64 bits count
pub spare_for_any : (row : List (Option (List ℕ))) (leaves : List (List ℕ)) (cap pushes : ℕ) → row ≡ all_added [] leaves → length row + 65 ≤ cap
    → pushes < 2 ^ 64 → pushes ≤ 2 ^ cap - 1 - length leaves
spare_for_any row leaves cap pushes e room few =
    let s : Stands 0 row leaves = rw e (stands_for 0 leaves) in
    let fits : length leaves + 1 ≤ 2 ^ (0 + length row) = fits_row 0 row leaves s in
    let p : ℕ = 2 ^ (0 + length row) in
    let more : 2 ^ ((0 + length row) + 65) ≤ 2 ^ cap = pow_mono {i = (0 + length row) + 65} {j = cap} (omega arith) in
    omega (arith, fits, more, pow-add 2 (0 + length row) 65)
