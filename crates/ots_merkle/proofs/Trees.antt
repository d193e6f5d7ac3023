-- Laws of the calendar's tree.
use Rattle.std.proofs.Common.{◌≡◌, ℕ, zero, suc, ◌+◌, ◌^◌, ◌<◌, ◌≤◌, List, [], ◌∷◌, ◌++◌, length, refl, sym, ap, ◌∙◌, arith, length-append}
use Rattle.std.proofs.lemmas.Bool.{le-leb, lt-leb}
use Rattle.std.proofs.lemmas.List.{take_at, drop_at}
use Rattle.std.proofs.Math.Nat.{pow-suc}
use Rattle.std.proofs.Math.Pow.{pow_mono}
use Rattle.ots_merkle.specs.Hashes.{node}
use Rattle.ots_merkle.specs.CalendarTree.{root_within, root}

-- any count is less than 2 to its power
pub below_power : (n : ℕ) → n < 2 ^ n
below_power zero = omega arith
below_power (suc n) = omega (arith, below_power n, pow-suc 2 n)

pub power_fits : (more h n : ℕ) → n ≤ 2 ^ h → n ≤ 2 ^ (more + h)
power_fits more h n fits = omega (arith, pow_mono {i = h} {j = more + h} (omega arith))

-- the next height makes no difference where the leaves fit the lower one
one_higher : (h : ℕ) (leaves : List (List ℕ)) → length leaves ≤ 2 ^ h → root_within (suc h) leaves ≡ root_within h leaves
unfolding root_within
one_higher h leaves fits = rw (le-leb (length leaves) (2 ^ h) fits) refl

-- nor do more
higher : (more h : ℕ) (leaves : List (List ℕ)) → length leaves ≤ 2 ^ h → root_within (more + h) leaves ≡ root_within h leaves
higher zero h leaves fits = ap (λ n. root_within n leaves) {x = 0 + h} {y = h} (omega arith)
higher (suc more) h leaves fits =
    ap (λ n. root_within n leaves) {x = suc more + h} {y = suc (more + h)} (omega arith)
    ∙ one_higher (more + h) leaves (power_fits more h (length leaves) fits)
    ∙ higher more h leaves fits

-- so any height will do that the leaves fit
pub root_at_height : (h : ℕ) (leaves : List (List ℕ)) → length leaves ≤ 2 ^ h → root_within h leaves ≡ root leaves
unfolding root
root_at_height h leaves fits =
    let n : ℕ = length leaves in
    let own : length leaves ≤ 2 ^ n = omega (arith, below_power (length leaves)) in
    sym (higher n h leaves fits)
    ∙ ap (λ m. root_within m leaves) {x = n + h} {y = h + n} (omega arith)
    ∙ higher h n leaves own

pub root_of_one : (leaf : List ℕ) → root (leaf ∷ []) ≡ leaf
unfolding root root_within
root_of_one leaf = refl

-- 2 ^ h leaves and then at least one and at most as many
pub root_of_two : (h : ℕ) (left right : List (List ℕ)) → length left ≡ 2 ^ h → 0 < length right → length right ≤ 2 ^ h
    → root (left ++ right) ≡ node (root left) (root right)
unfolding root_within
root_of_two h left right full some few =
    let count : length (left ++ right) ≡ 2 ^ h + length right = omega (arith, length-append left right) in
    let more : 2 ^ h < length (left ++ right) = omega arith in
    let fits : length (left ++ right) ≤ 2 ^ suc h = omega (arith, pow-suc 2 h) in
    sym (root_at_height (suc h) (left ++ right) fits)
    ∙ rw (lt-leb (length (left ++ right)) (2 ^ h) more, take_at left right (2 ^ h) full, drop_at left right (2 ^ h) full)
    (let l : root_within h left ≡ root left = root_at_height h left (omega arith) in
    let r : root_within h right ≡ root right = root_at_height h right few in
    λ i. node (l i) (r i))
