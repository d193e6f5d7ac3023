-- The tree over the roots of runs is the upper part of the tree over the leaves.
use Rattle.std.proofs.Common.{◌≡◌, ℕ, zero, suc, ◌+◌, ◌-◌, ◌*◌, ◌^◌, ◌<◌, ◌≤◌, List, [], ◌∷◌, ◌++◌, length, take, drop, nat_lt, Bool, true, false, refl, sym, ap, ◌∙◌, subst, arith, append_assoc, length-drop, length-take-le, mul-suc, mul-add, append-nil}
use Rattle.std.proofs.lemmas.Bool.{ltb-true, ltb-false}
use Rattle.std.proofs.lemmas.List.{take-take, drop-drop, drop-take, take_all}
use Rattle.std.proofs.lemmas.Nat.{pow-add, pow_pos}
use Rattle.std.proofs.Math.Nat.{mul-le-mul_left, pow-suc}
use Rattle.ots_ops.specs.declared.op.Op.TheVariants.{Sha256, Append, Prepend}
use Rattle.ots_merkle.specs.Hashes.{node}
use Rattle.ots_merkle.specs.CalendarTree.{root_within, root, path_within, path}
use Rattle.ots_growing_tree.specs.Runs.{run_roots}
use Rattle.ots_merkle.proofs.Trees.{below_power, root_at_height}
use Rattle.ots_merkle.proofs.PathLaws.{root_split, root_lower, path_lower, path_left, path_right, path_at_height}

-- ---- the list of roots

pub length-run_roots : (s n : ℕ) (xs : List (List ℕ)) → length (run_roots s n xs) ≡ n
unfolding run_roots
length-run_roots s zero xs = refl
length-run_roots s (suc n) xs = ap suc (length-run_roots s n (drop s xs))

-- only what the runs cover counts
pub roots_of_prefix : (s n k : ℕ) (xs : List (List ℕ)) → s * n ≤ k → run_roots s n (take k xs) ≡ run_roots s n xs
unfolding run_roots
roots_of_prefix s zero k xs fits = refl
roots_of_prefix s (suc n) k xs fits =
    let m : ℕ = k - s in
    let k-is : k ≡ s + m = omega (arith, fits, mul-suc s n) in
    let rest : run_roots s n (drop s (take k xs)) ≡ run_roots s n (drop s xs) =
    ap (λ z. run_roots s n (drop s (take z xs))) k-is ∙ ap (run_roots s n) (drop-take s m xs) ∙ roots_of_prefix s n m (drop s xs) (omega (arith, fits, mul-suc s n)) in
    let first : take s (take k xs) ≡ take s xs = take-take s k xs (omega (arith, fits, mul-suc s n)) in
    λ i. root (first i) ∷ rest i

pub take-run_roots : (s k n : ℕ) (xs : List (List ℕ)) → k ≤ n → take k (run_roots s n xs) ≡ run_roots s k xs
unfolding run_roots
take-run_roots s zero n xs fits = refl
take-run_roots s (suc k) zero xs fits = absurd (omega (arith, fits))
take-run_roots s (suc k) (suc n) xs fits = ap (λ z. root (take s xs) ∷ z) (take-run_roots s k n (drop s xs) (omega (arith, fits)))

pub drop-run_roots : (s k n : ℕ) (xs : List (List ℕ)) → drop k (run_roots s (k + n) xs) ≡ run_roots s n (drop (s * k) xs)
unfolding run_roots
drop-run_roots s zero n xs =
    ap (λ z. run_roots s z xs) {x = 0 + n} {y = n} (omega arith) ∙ ap (λ z. run_roots s n (drop z xs)) {x = 0} {y = s * 0} (omega arith)
drop-run_roots s (suc k) n xs =
    ap (λ z. drop (suc k) (run_roots s z xs)) {x = suc k + n} {y = suc (k + n)} (omega arith)
    ∙ drop-run_roots s k n (drop s xs)
    ∙ ap (run_roots s n) (drop-drop (s * k) s xs ∙ ap (λ z. drop z xs) (omega (arith, mul-suc s k)))

-- ---- the tree above them

-- The leaves fill n runs, the last of them perhaps in part.
pub record Fills (s n : ℕ) (xs : List (List ℕ)) : Type 0 where
  pub some : 0 < n
  pub fits : length xs ≤ s * n
  pub last : s * n < length xs + s

-- the left part has whole runs
left_fills : (s k n : ℕ) (xs : List (List ℕ)) → 0 < s → 0 < k → k < n → Fills s n xs → Fills s k (take (s * k) xs)
left_fills s k n xs size some more f =
    let below : s * k + s ≤ s * n = omega (arith, mul-le-mul_left {m = suc k} {n = n} s more, mul-suc s k) in
    let long : length (take (s * k) xs) ≡ s * k = length-take-le (s * k) xs (omega (arith, below, f.last)) in
    record { some = some; fits = omega (arith, long); last = omega (arith, long, size) }

-- and the right part the others
right_fills : (s k m : ℕ) (xs : List (List ℕ)) → 0 < m → Fills s (k + m) xs → Fills s m (drop (s * k) xs)
right_fills s k m xs some f =
    let long = length-drop (s * k) xs in
    record {
      some = some;
      fits = omega (arith, long, f.fits, mul-add s k m);
      last = omega (arith, long, f.last, mul-add s k m);
    }

-- runs of 2 ^ m leaves, up to 2 ^ h of them
size_at : (m h : ℕ) → 2 ^ (h + m) ≡ 2 ^ m * 2 ^ h
size_at m h = ap (λ k. 2 ^ k) {x = h + m} {y = m + h} (omega arith) ∙ pow-add 2 m h

-- one run has one root
one_run : (m n : ℕ) (xs : List (List ℕ)) → Fills (2 ^ m) n xs → n ≤ 2 ^ 0 → run_roots (2 ^ m) n xs ≡ root xs ∷ []
unfolding run_roots
one_run m n xs f few =
    let one : n ≡ 1 = omega (arith, f.some, few) in
    ap (λ k. run_roots (2 ^ m) k xs) {x = n} {y = suc zero} one
    ∙ ap (λ z. root z ∷ []) (take_all (2 ^ m) xs (omega (arith, f.fits, ap (λ z. 2 ^ m * z) one)))

split_fits : (m h : ℕ) (n : ℕ) (xs : List (List ℕ)) → Fills (2 ^ m) n xs → 2 ^ h < n → 2 ^ (h + m) < length xs
split_fits m h n xs f more =
    omega (arith, f.last, size_at m h, mul-le-mul_left {m = suc (2 ^ h)} {n = n} (2 ^ m) more, mul-suc (2 ^ m) (2 ^ h))

root_up-by : (m h n : ℕ) (xs : List (List ℕ)) → Fills (2 ^ m) n xs → n ≤ 2 ^ suc h
    → ((k : ℕ) (part : List (List ℕ)) → Fills (2 ^ m) k part → k ≤ 2 ^ h → root_within (h + m) part ≡ root_within h (run_roots (2 ^ m) k part))
    → (more : Bool) → nat_lt (2 ^ h) n ≡ more → root_within (suc (h + m)) xs ≡ root_within (suc h) (run_roots (2 ^ m) n xs)
root_up-by m h n xs f few below false e =
    let less : n ≤ 2 ^ h = ltb-false (2 ^ h) n e in
    let short : length xs ≤ 2 ^ (h + m) = omega (arith, f.fits, mul-le-mul_left {m = n} {n = 2 ^ h} (2 ^ m) less, size_at m h) in
    root_lower (h + m) xs short ∙ below n xs f less
    ∙ sym (root_lower h (run_roots (2 ^ m) n xs) (omega (arith, length-run_roots (2 ^ m) n xs, less)))
root_up-by m h n xs f few below true e =
    let more : 2 ^ h < n = ltb-true (2 ^ h) n e in
    let k : ℕ = n - 2 ^ h in
    let parts : n ≡ 2 ^ h + k = omega (arith, more) in
    let g : Fills (2 ^ m) (2 ^ h + k) xs = subst (λ z. Fills (2 ^ m) z xs) parts f in
    let at = size_at m h in
    let left : root_within (h + m) (take (2 ^ (h + m)) xs) ≡ root_within h (take (2 ^ h) (run_roots (2 ^ m) n xs)) =
    ap (λ z. root_within (h + m) (take z xs)) at
    ∙ below (2 ^ h) (take (2 ^ m * 2 ^ h) xs) (left_fills (2 ^ m) (2 ^ h) n xs (pow_pos m) (pow_pos h) more f) (omega arith)
    ∙ ap (root_within h) (roots_of_prefix (2 ^ m) (2 ^ h) (2 ^ m * 2 ^ h) xs (omega arith) ∙ sym (take-run_roots (2 ^ m) (2 ^ h) n xs (omega (arith, more)))) in
    let right : root_within (h + m) (drop (2 ^ (h + m)) xs) ≡ root_within h (drop (2 ^ h) (run_roots (2 ^ m) n xs)) =
    ap (λ z. root_within (h + m) (drop z xs)) at
    ∙ below k (drop (2 ^ m * 2 ^ h) xs) (right_fills (2 ^ m) (2 ^ h) k xs (omega (arith, more)) g) (omega (arith, few, pow-suc 2 h))
    ∙ ap (root_within h) (sym (drop-run_roots (2 ^ m) (2 ^ h) k xs) ∙ ap (λ z. drop (2 ^ h) (run_roots (2 ^ m) z xs)) (sym parts)) in
    root_split (h + m) xs (split_fits m h n xs f more)
    ∙ (λ i. node (left i) (right i))
    ∙ sym (root_split h (run_roots (2 ^ m) n xs) (omega (arith, length-run_roots (2 ^ m) n xs, more)))

pub root_up : (m h n : ℕ) (xs : List (List ℕ)) → Fills (2 ^ m) n xs → n ≤ 2 ^ h → root_within (h + m) xs ≡ root_within h (run_roots (2 ^ m) n xs)
unfolding root_within
root_up m zero n xs f few =
    ap (λ k. root_within k xs) {x = 0 + m} {y = m} (omega arith)
    ∙ root_at_height m xs (omega (arith, f.fits, mul-le-mul_left {m = n} {n = 1} (2 ^ m) few))
    ∙ ap (root_within zero) {x = root xs ∷ []} {y = run_roots (2 ^ m) n xs} (sym (one_run m n xs f few))
root_up m (suc h) n xs f few =
    ap (λ k. root_within k xs) {x = suc h + m} {y = suc (h + m)} (omega arith) ∙ root_up-by m h n xs f few (root_up m h) (nat_lt (2 ^ h) n) refl

-- The tree over the roots of the runs has the root of the tree over the leaves.
pub root_of_runs : (m n : ℕ) (xs : List (List ℕ)) → Fills (2 ^ m) n xs → root xs ≡ root (run_roots (2 ^ m) n xs)
root_of_runs m n xs f =
    let h : ℕ = n in
    let few : n ≤ 2 ^ h = omega (arith, below_power n) in
    sym (root_at_height (h + m) xs (omega (arith, f.fits, mul-le-mul_left {m = n} {n = 2 ^ h} (2 ^ m) few, size_at m h)))
    ∙ root_up m h n xs f few
    ∙ root_at_height h (run_roots (2 ^ m) n xs) (omega (arith, length-run_roots (2 ^ m) n xs, few))

-- ---- the paths

-- a run that lies within a prefix
within_prefix : (a n k : ℕ) (xs : List (List ℕ)) → a + n ≤ k → take n (drop a (take k xs)) ≡ take n (drop a xs)
within_prefix a n k xs fits =
    sym (drop-take a n (take k xs)) ∙ ap (drop a) (take-take (a + n) k xs fits) ∙ drop-take a n xs

no_more : (s q : ℕ) → s * q < s → q ≡ 0
no_more s zero less = refl
no_more s (suc q) less = absurd (omega (arith, less, mul-suc s q))

-- the roots of the two parts
left_root : (m h n : ℕ) (xs : List (List ℕ)) → 2 ^ h < n → Fills (2 ^ m) n xs
    → root_within (h + m) (take (2 ^ (h + m)) xs) ≡ root_within h (take (2 ^ h) (run_roots (2 ^ m) n xs))
left_root m h n xs more f =
    ap (λ z. root_within (h + m) (take z xs)) (size_at m h)
    ∙ root_up m h (2 ^ h) (take (2 ^ m * 2 ^ h) xs) (left_fills (2 ^ m) (2 ^ h) n xs (pow_pos m) (pow_pos h) more f) (omega arith)
    ∙ ap (root_within h) (roots_of_prefix (2 ^ m) (2 ^ h) (2 ^ m * 2 ^ h) xs (omega arith) ∙ sym (take-run_roots (2 ^ m) (2 ^ h) n xs (omega (arith, more))))

right_root : (m h k n : ℕ) (xs : List (List ℕ)) → n ≡ 2 ^ h + k → 2 ^ h < n → n ≤ 2 ^ suc h → Fills (2 ^ m) (2 ^ h + k) xs
    → root_within (h + m) (drop (2 ^ (h + m)) xs) ≡ root_within h (drop (2 ^ h) (run_roots (2 ^ m) n xs))
right_root m h k n xs parts more few f =
    ap (λ z. root_within (h + m) (drop z xs)) (size_at m h)
    ∙ root_up m h k (drop (2 ^ m * 2 ^ h) xs) (right_fills (2 ^ m) (2 ^ h) k xs (omega (arith, parts, more)) f) (omega (arith, parts, few, pow-suc 2 h))
    ∙ ap (root_within h) (sym (drop-run_roots (2 ^ m) (2 ^ h) k xs) ∙ ap (λ z. drop (2 ^ h) (run_roots (2 ^ m) z xs)) (sym parts))

path_up-by : (m h n : ℕ) (xs : List (List ℕ)) (q r : ℕ) → Fills (2 ^ m) n xs → n ≤ 2 ^ suc h → r < 2 ^ m → 2 ^ m * q + r < length xs
    → ((k : ℕ) (part : List (List ℕ)) (j : ℕ) → Fills (2 ^ m) k part → k ≤ 2 ^ h → 2 ^ m * j + r < length part
    → path_within (h + m) part (2 ^ m * j + r) ≡ path (take (2 ^ m) (drop (2 ^ m * j) part)) r ++ path_within h (run_roots (2 ^ m) k part) j)
    → (more here : Bool) → nat_lt (2 ^ h) n ≡ more → nat_lt q (2 ^ h) ≡ here
    → path_within (suc (h + m)) xs (2 ^ m * q + r) ≡ path (take (2 ^ m) (drop (2 ^ m * q) xs)) r ++ path_within (suc h) (run_roots (2 ^ m) n xs) q
path_up-by m h n xs q r f few low inside below false here e d =
    let less : n ≤ 2 ^ h = ltb-false (2 ^ h) n e in
    let short : length xs ≤ 2 ^ (h + m) = omega (arith, f.fits, mul-le-mul_left {m = n} {n = 2 ^ h} (2 ^ m) less, size_at m h) in
    path_lower (h + m) xs (2 ^ m * q + r) short ∙ below n xs q f less inside
    ∙ ap (λ z. path (take (2 ^ m) (drop (2 ^ m * q) xs)) r ++ z)
    (sym (path_lower h (run_roots (2 ^ m) n xs) q (omega (arith, length-run_roots (2 ^ m) n xs, less))))
path_up-by m h n xs q r f few low inside below true true e d =
    let more : 2 ^ h < n = ltb-true (2 ^ h) n e in
    let here : q < 2 ^ h = ltb-true q (2 ^ h) d in
    let k : ℕ = n - 2 ^ h in
    let parts : n ≡ 2 ^ h + k = omega (arith, more) in
    let g : Fills (2 ^ m) (2 ^ h + k) xs = subst (λ z. Fills (2 ^ m) z xs) parts f in
    let at = size_at m h in
    let end : 2 ^ m * q + 2 ^ m ≤ 2 ^ m * 2 ^ h = omega (arith, mul-le-mul_left {m = suc q} {n = 2 ^ h} (2 ^ m) here, mul-suc (2 ^ m) q) in
    let long : length (take (2 ^ m * 2 ^ h) xs) ≡ 2 ^ m * 2 ^ h = length-take-le (2 ^ m * 2 ^ h) xs (omega (arith, split_fits m h n xs f more, at)) in
    let own : take (2 ^ m) (drop (2 ^ m * q) (take (2 ^ m * 2 ^ h) xs)) ≡ take (2 ^ m) (drop (2 ^ m * q) xs) =
    within_prefix (2 ^ m * q) (2 ^ m) (2 ^ m * 2 ^ h) xs end in
    let upper : path_within h (run_roots (2 ^ m) (2 ^ h) (take (2 ^ m * 2 ^ h) xs)) q ≡ path_within h (take (2 ^ h) (run_roots (2 ^ m) n xs)) q =
    ap (λ z. path_within h z q) (roots_of_prefix (2 ^ m) (2 ^ h) (2 ^ m * 2 ^ h) xs (omega arith) ∙ sym (take-run_roots (2 ^ m) (2 ^ h) n xs (omega (arith, more)))) in
    let lower : path_within (h + m) (take (2 ^ (h + m)) xs) (2 ^ m * q + r)
    ≡ path (take (2 ^ m) (drop (2 ^ m * q) xs)) r ++ path_within h (take (2 ^ h) (run_roots (2 ^ m) n xs)) q =
    ap (λ z. path_within (h + m) (take z xs) (2 ^ m * q + r)) at
    ∙ below (2 ^ h) (take (2 ^ m * 2 ^ h) xs) q (left_fills (2 ^ m) (2 ^ h) n xs (pow_pos m) (pow_pos h) more f) (omega arith) (omega (arith, long, end, low))
    ∙ (λ i. path (own i) r ++ upper i) in
    path_left (h + m) xs (2 ^ m * q + r) (split_fits m h n xs f more) (omega (arith, end, low, at))
    ∙ (let other = right_root m h k n xs parts more few g in
    λ i. lower i ++ Append (other i) ∷ Sha256 ∷ [])
    ∙ append_assoc (path (take (2 ^ m) (drop (2 ^ m * q) xs)) r) (path_within h (take (2 ^ h) (run_roots (2 ^ m) n xs)) q)
    (Append (root_within h (drop (2 ^ h) (run_roots (2 ^ m) n xs))) ∷ Sha256 ∷ [])
    ∙ ap (λ z. path (take (2 ^ m) (drop (2 ^ m * q) xs)) r ++ z)
    (sym (path_left h (run_roots (2 ^ m) n xs) q (omega (arith, length-run_roots (2 ^ m) n xs, more)) here))
path_up-by m h n xs q r f few low inside below true false e d =
    let more : 2 ^ h < n = ltb-true (2 ^ h) n e in
    let there : 2 ^ h ≤ q = ltb-false q (2 ^ h) d in
    let k : ℕ = n - 2 ^ h in
    let j : ℕ = q - 2 ^ h in
    let place : q ≡ 2 ^ h + j = omega (arith, there) in
    let parts : n ≡ 2 ^ h + k = omega (arith, more) in
    let g : Fills (2 ^ m) (2 ^ h + k) xs = subst (λ z. Fills (2 ^ m) z xs) parts f in
    let at = size_at m h in
    let far : 2 ^ m * q ≡ 2 ^ m * 2 ^ h + 2 ^ m * j = ap (λ z. 2 ^ m * z) place ∙ mul-add (2 ^ m) (2 ^ h) j in
    let own : take (2 ^ m) (drop (2 ^ m * j) (drop (2 ^ m * 2 ^ h) xs)) ≡ take (2 ^ m) (drop (2 ^ m * q) xs) =
    ap (take (2 ^ m)) (drop-drop (2 ^ m * j) (2 ^ m * 2 ^ h) xs ∙ ap (λ z. drop z xs) (sym far)) in
    let upper : path_within h (run_roots (2 ^ m) k (drop (2 ^ m * 2 ^ h) xs)) j ≡ path_within h (drop (2 ^ h) (run_roots (2 ^ m) n xs)) (q - 2 ^ h) =
    ap (λ z. path_within h z j) (sym (drop-run_roots (2 ^ m) (2 ^ h) k xs) ∙ ap (λ z. drop (2 ^ h) (run_roots (2 ^ m) z xs)) (sym parts)) in
    let index : 2 ^ m * q + r - 2 ^ (h + m) ≡ 2 ^ m * j + r = omega (arith, far, at) in
    let lower : path_within (h + m) (drop (2 ^ (h + m)) xs) (2 ^ m * q + r - 2 ^ (h + m))
    ≡ path (take (2 ^ m) (drop (2 ^ m * q) xs)) r ++ path_within h (drop (2 ^ h) (run_roots (2 ^ m) n xs)) (q - 2 ^ h) =
    (λ i. path_within (h + m) (drop (at i) xs) (index i))
    ∙ below k (drop (2 ^ m * 2 ^ h) xs) j (right_fills (2 ^ m) (2 ^ h) k xs (omega (arith, more)) g) (omega (arith, few, pow-suc 2 h))
    (omega (arith, inside, far, length-drop (2 ^ m * 2 ^ h) xs))
    ∙ (λ i. path (own i) r ++ upper i) in
    path_right (h + m) xs (2 ^ m * q + r) (split_fits m h n xs f more) (omega (arith, far, at))
    ∙ (let other = left_root m h n xs more f in
    λ i. lower i ++ Prepend (other i) ∷ Sha256 ∷ [])
    ∙ append_assoc (path (take (2 ^ m) (drop (2 ^ m * q) xs)) r) (path_within h (drop (2 ^ h) (run_roots (2 ^ m) n xs)) (q - 2 ^ h))
    (Prepend (root_within h (take (2 ^ h) (run_roots (2 ^ m) n xs))) ∷ Sha256 ∷ [])
    ∙ ap (λ z. path (take (2 ^ m) (drop (2 ^ m * q) xs)) r ++ z)
    (sym (path_right h (run_roots (2 ^ m) n xs) q (omega (arith, length-run_roots (2 ^ m) n xs, more)) there))

pub path_up : (m h n : ℕ) (xs : List (List ℕ)) (q r : ℕ) → Fills (2 ^ m) n xs → n ≤ 2 ^ h → r < 2 ^ m → 2 ^ m * q + r < length xs
    → path_within (h + m) xs (2 ^ m * q + r) ≡ path (take (2 ^ m) (drop (2 ^ m * q) xs)) r ++ path_within h (run_roots (2 ^ m) n xs) q
unfolding path_within
path_up m zero n xs q r f few low inside =
    let short : length xs ≤ 2 ^ m = omega (arith, f.fits, mul-le-mul_left {m = n} {n = 1} (2 ^ m) few) in
    let first : q ≡ 0 = no_more (2 ^ m) q (omega (arith, inside, short)) in
    let index : 2 ^ m * q + r ≡ r = omega (arith, ap (λ z. 2 ^ m * z) first) in
    let own : xs ≡ take (2 ^ m) (drop (2 ^ m * q) xs) =
    sym (take_all (2 ^ m) xs short) ∙ ap (λ z. take (2 ^ m) (drop z xs)) {x = 0} {y = 2 ^ m * q} (omega (arith, ap (λ z. 2 ^ m * z) first)) in
    ap (λ k. path_within k xs (2 ^ m * q + r)) {x = 0 + m} {y = m} (omega arith)
    ∙ path_at_height m xs (2 ^ m * q + r) short
    ∙ (λ i. path (own i) (index i))
    ∙ sym (append-nil (path (take (2 ^ m) (drop (2 ^ m * q) xs)) r))
path_up m (suc h) n xs q r f few low inside =
    ap (λ k. path_within k xs (2 ^ m * q + r)) {x = suc h + m} {y = suc (h + m)} (omega arith)
    ∙ path_up-by m h n xs q r f few low inside (λ k part j g fits. path_up m h k part j r g fits low) (nat_lt (2 ^ h) n) (nat_lt q (2 ^ h)) refl refl

-- The path of a leaf leads through its own run, and then through the tree over the roots of the runs.
pub path_through_run : (m n : ℕ) (xs : List (List ℕ)) (q r : ℕ) → Fills (2 ^ m) n xs → r < 2 ^ m → 2 ^ m * q + r < length xs
    → path xs (2 ^ m * q + r) ≡ path (take (2 ^ m) (drop (2 ^ m * q) xs)) r ++ path (run_roots (2 ^ m) n xs) q
path_through_run m n xs q r f low inside =
    let few : n ≤ 2 ^ n = omega (arith, below_power n) in
    sym (path_at_height (n + m) xs (2 ^ m * q + r) (omega (arith, f.fits, mul-le-mul_left {m = n} {n = 2 ^ n} (2 ^ m) few, size_at m n)))
    ∙ path_up m n n xs q r f few low inside
    ∙ ap (λ z. path (take (2 ^ m) (drop (2 ^ m * q) xs)) r ++ z) (path_at_height n (run_roots (2 ^ m) n xs) q (omega (arith, length-run_roots (2 ^ m) n xs, few)))

-- ---- one run more

pub run_roots-snoc : (s n : ℕ) (xs : List (List ℕ)) → run_roots s (suc n) xs ≡ run_roots s n xs ++ root (take s (drop (s * n) xs)) ∷ []
unfolding run_roots
run_roots-snoc s zero xs = ap (λ z. root (take s (drop z xs)) ∷ []) {x = 0} {y = s * 0} (omega arith)
run_roots-snoc s (suc n) xs =
    ap (λ z. root (take s xs) ∷ z) (run_roots-snoc s n (drop s xs)
    ∙ ap (λ z. run_roots s n (drop s xs) ++ root (take s z) ∷ []) (drop-drop (s * n) s xs ∙ ap (λ z. drop z xs) (omega (arith, mul-suc s n))))
