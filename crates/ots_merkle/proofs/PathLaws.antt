-- Laws of the paths in a calendar's tree.
use Rattle.std.proofs.Common.{◌≡◌, ℕ, zero, suc, ◌+◌, ◌-◌, ◌*◌, ◌^◌, ◌<◌, ◌≤◌, List, [], ◌∷◌, ◌++◌, length, take, drop, get_or, nat_lt, Bool, true, false, Option, Some, None, refl, sym, ap, ◌∙◌, subst, arith, append_assoc, length-append, length-drop, length-take-le}
use Rattle.std.specs.Prelude.{option_and_then}
use Rattle.std.proofs.lemmas.Bool.{lt-ltb, le-ltb, le-leb, lt-leb, ltb-true, ltb-false}
use Rattle.std.proofs.lemmas.List.{take_at, take_rest, drop_at, get_or-take, get_or-drop}
use Rattle.std.proofs.Math.Nat.{pow-suc}
use Rattle.sha2.specs.Sha256.{sha256}
use Rattle.sha2.proofs.Facts256.{length-sha256}
use Rattle.ots_ops.specs.Apply.{apply}
use Rattle.ots_ops.specs.Value.{value}
use Rattle.ots_ops.specs.declared.op.Op.{Op}
use Rattle.ots_ops.specs.declared.op.Op.TheVariants.{Sha256, Append, Prepend}
use Rattle.ots_merkle.specs.Hashes.{node, AreHashes}
use Rattle.ots_merkle.specs.CalendarTree.{root_within, root, path_within, path}
use Rattle.ots_merkle.proofs.Trees.{below_power, power_fits, root_at_height}

-- the three ways through a height
pub path_lower : (h : ℕ) (leaves : List (List ℕ)) (i : ℕ) → length leaves ≤ 2 ^ h → path_within (suc h) leaves i ≡ path_within h leaves i
unfolding path_within
path_lower h leaves i fits = rw (le-leb (length leaves) (2 ^ h) fits) refl

pub path_left : (h : ℕ) (leaves : List (List ℕ)) (i : ℕ) → 2 ^ h < length leaves → i < 2 ^ h
    → path_within (suc h) leaves i ≡ path_within h (take (2 ^ h) leaves) i ++ Append (root_within h (drop (2 ^ h) leaves)) ∷ Sha256 ∷ []
unfolding path_within
path_left h leaves i more here = rw (lt-leb (length leaves) (2 ^ h) more, lt-ltb i (2 ^ h) here) refl

pub path_right : (h : ℕ) (leaves : List (List ℕ)) (i : ℕ) → 2 ^ h < length leaves → 2 ^ h ≤ i
    → path_within (suc h) leaves i ≡ path_within h (drop (2 ^ h) leaves) (i - 2 ^ h) ++ Prepend (root_within h (take (2 ^ h) leaves)) ∷ Sha256 ∷ []
unfolding path_within
path_right h leaves i more there = rw (lt-leb (length leaves) (2 ^ h) more, le-ltb i (2 ^ h) there) refl

pub root_split : (h : ℕ) (leaves : List (List ℕ)) → 2 ^ h < length leaves
    → root_within (suc h) leaves ≡ node (root_within h (take (2 ^ h) leaves)) (root_within h (drop (2 ^ h) leaves))
unfolding root_within
root_split h leaves more = rw (lt-leb (length leaves) (2 ^ h) more) refl

pub root_lower : (h : ℕ) (leaves : List (List ℕ)) → length leaves ≤ 2 ^ h → root_within (suc h) leaves ≡ root_within h leaves
unfolding root_within
root_lower h leaves fits = rw (le-leb (length leaves) (2 ^ h) fits) refl

-- any height will do that the leaves fit
higher : (more h : ℕ) (leaves : List (List ℕ)) (i : ℕ) → length leaves ≤ 2 ^ h → path_within (more + h) leaves i ≡ path_within h leaves i
higher zero h leaves i fits = ap (λ n. path_within n leaves i) {x = 0 + h} {y = h} (omega arith)
higher (suc more) h leaves i fits =
    ap (λ n. path_within n leaves i) {x = suc more + h} {y = suc (more + h)} (omega arith)
    ∙ path_lower (more + h) leaves i (power_fits more h (length leaves) fits)
    ∙ higher more h leaves i fits

pub path_at_height : (h : ℕ) (leaves : List (List ℕ)) (i : ℕ) → length leaves ≤ 2 ^ h → path_within h leaves i ≡ path leaves i
unfolding path
path_at_height h leaves i fits =
    let n : ℕ = length leaves in
    let own : length leaves ≤ 2 ^ n = omega (arith, below_power (length leaves)) in
    sym (higher n h leaves i fits)
    ∙ ap (λ m. path_within m leaves i) {x = n + h} {y = h + n} (omega arith)
    ∙ higher h n leaves i own

pub path_of_one : (leaf : List ℕ) → path (leaf ∷ []) 0 ≡ []
unfolding path path_within
path_of_one leaf = refl

both : (h : ℕ) (left right : List (List ℕ)) → length left ≡ 2 ^ h → length (left ++ right) ≡ 2 ^ h + length right
both h left right full = omega (arith, length-append left right)

pub path_of_left : (h : ℕ) (left right : List (List ℕ)) (i : ℕ) → length left ≡ 2 ^ h → 0 < length right → length right ≤ 2 ^ h → i < length left
    → path (left ++ right) i ≡ path left i ++ Append (root right) ∷ Sha256 ∷ []
path_of_left h left right i full some few here =
    sym (path_at_height (suc h) (left ++ right) i (omega (arith, both h left right full, pow-suc 2 h)))
    ∙ path_left h (left ++ right) i (omega (arith, both h left right full)) (omega arith)
    ∙ rw (take_at left right (2 ^ h) full, drop_at left right (2 ^ h) full)
    (let p : path_within h left i ≡ path left i = path_at_height h left i (omega arith) in
    let r : root_within h right ≡ root right = root_at_height h right few in
    λ j. p j ++ Append (r j) ∷ Sha256 ∷ [])

pub path_of_right : (h : ℕ) (left right : List (List ℕ)) (i : ℕ) → length left ≡ 2 ^ h → 0 < length right → length right ≤ 2 ^ h → i < length right
    → path (left ++ right) (length left + i) ≡ path right i ++ Prepend (root left) ∷ Sha256 ∷ []
path_of_right h left right i full some few here =
    sym (path_at_height (suc h) (left ++ right) (length left + i) (omega (arith, both h left right full, pow-suc 2 h)))
    ∙ path_right h (left ++ right) (length left + i) (omega (arith, both h left right full)) (omega arith)
    ∙ rw (take_at left right (2 ^ h) full, drop_at left right (2 ^ h) full)
    (let k : length left + i - 2 ^ h ≡ i = omega arith in
    let p : path_within h right (length left + i - 2 ^ h) ≡ path right i = ap (path_within h right) k ∙ path_at_height h right i few in
    let l : root_within h left ≡ root left = root_at_height h left (omega arith) in
    λ j. p j ++ Prepend (l j) ∷ Sha256 ∷ [])

-- how long a path is
longer : (p : List Op) (o q : Op) → length (p ++ o ∷ q ∷ []) ≡ length p + 2
longer p o q = omega (arith, length-append p (o ∷ q ∷ []))

short_by : (h : ℕ) (leaves : List (List ℕ)) (i : ℕ) (more here : Bool) → nat_lt (2 ^ h) (length leaves) ≡ more → nat_lt i (2 ^ h) ≡ here
    → ((part : List (List ℕ)) (j : ℕ) → length (path_within h part j) ≤ 2 * h)
    → length (path_within (suc h) leaves i) ≤ 2 * suc h
short_by h leaves i false here e f below =
    omega (arith, ap length (path_lower h leaves i (ltb-false (2 ^ h) (length leaves) e)), below leaves i)
short_by h leaves i true true e f below =
    omega (
      arith,
      ap length (path_left h leaves i (ltb-true (2 ^ h) (length leaves) e) (ltb-true i (2 ^ h) f)),
      longer (path_within h (take (2 ^ h) leaves) i) (Append (root_within h (drop (2 ^ h) leaves))) Sha256,
      below (take (2 ^ h) leaves) i,
    )
short_by h leaves i true false e f below =
    omega (
      arith,
      ap length (path_right h leaves i (ltb-true (2 ^ h) (length leaves) e) (ltb-false i (2 ^ h) f)),
      longer (path_within h (drop (2 ^ h) leaves) (i - 2 ^ h)) (Prepend (root_within h (take (2 ^ h) leaves))) Sha256,
      below (drop (2 ^ h) leaves) (i - 2 ^ h),
    )

pub short_within : (h : ℕ) (leaves : List (List ℕ)) (i : ℕ) → length (path_within h leaves i) ≤ 2 * h
unfolding path_within
short_within zero leaves i = omega arith
short_within (suc h) leaves i =
    short_by h leaves i (nat_lt (2 ^ h) (length leaves)) (nat_lt i (2 ^ h)) refl refl (short_within h)

pub path_short : (h : ℕ) (leaves : List (List ℕ)) (i : ℕ) → length leaves ≤ 2 ^ h → length (path leaves i) ≤ 2 * h
path_short h leaves i fits = omega (arith, short_within h leaves i, ap length (path_at_height h leaves i fits))

-- roots are as long as hashes
pub are_hashes : (hashes : List (List ℕ)) → ((i : ℕ) → i < length hashes → length (get_or hashes i []) ≡ 32) → AreHashes hashes
are_hashes [] each = tt
are_hashes (x ∷ hashes) each = (each 0 (omega arith), are_hashes hashes (λ i l. each (suc i) (omega arith)))

hashes_take : (n : ℕ) (hashes : List (List ℕ)) → AreHashes hashes → AreHashes (take n hashes)
hashes_take zero hashes are = tt
hashes_take (suc n) [] are = tt
hashes_take (suc n) (x ∷ hashes) are = (are.0, hashes_take n hashes are.1)

hashes_drop : (n : ℕ) (hashes : List (List ℕ)) → AreHashes hashes → AreHashes (drop n hashes)
hashes_drop zero hashes are = are
hashes_drop (suc n) [] are = tt
hashes_drop (suc n) (x ∷ hashes) are = hashes_drop n hashes are.1

at_hash : (hashes : List (List ℕ)) (i : ℕ) → AreHashes hashes → i < length hashes → length (get_or hashes i []) ≡ 32
at_hash [] i are within = absurd (omega arith)
at_hash (x ∷ hashes) zero are within = are.0
at_hash (x ∷ hashes) (suc i) are within = at_hash hashes i are.1 (omega arith)

length_by : (h : ℕ) (leaves : List (List ℕ)) (more : Bool) → nat_lt (2 ^ h) (length leaves) ≡ more
    → length (root_within h leaves) ≡ 32 → length (root_within (suc h) leaves) ≡ 32
length_by h leaves true e below =
    ap length (root_split h leaves (ltb-true (2 ^ h) (length leaves) e))
    ∙ length-sha256 (root_within h (take (2 ^ h) leaves) ++ root_within h (drop (2 ^ h) leaves))
length_by h leaves false e below = ap length (root_lower h leaves (ltb-false (2 ^ h) (length leaves) e)) ∙ below

length_root : (h : ℕ) (leaves : List (List ℕ)) → AreHashes leaves → 0 < length leaves → length (root_within h leaves) ≡ 32
unfolding root_within
length_root zero leaves are some = at_hash leaves 0 are some
length_root (suc h) leaves are some = length_by h leaves (nat_lt (2 ^ h) (length leaves)) refl (length_root h leaves are some)

-- operations one after another
value_then : (a b : List Op) (m : Option (List ℕ)) → option_and_then (value (a ++ b)) m ≡ option_and_then (value b) (option_and_then (value a) m)
value_then a b None = refl
value_then [] b (Some m) = refl
value_then (o ∷ a) b (Some m) = value_then a b (apply o m)

append_hash : (m s : List ℕ) → length m ≡ 32 → length s ≡ 32 → apply (Append s) m ≡ Some (m ++ s)
append_hash m s lm ls = rw (lm, ls) refl

prepend_hash : (m s : List ℕ) → length m ≡ 32 → length s ≡ 32 → apply (Prepend s) m ≡ Some (s ++ m)
prepend_hash m s lm ls = rw (lm, ls) refl

hash_pair : (m : List ℕ) → length m ≡ 64 → apply Sha256 m ≡ Some (sha256 m)
hash_pair m lm = rw lm refl

step_right : (m s : List ℕ) → length m ≡ 32 → length s ≡ 32 → value (Append s ∷ Sha256 ∷ []) m ≡ Some (node m s)
step_right m s lm ls =
    ap (option_and_then (value (Sha256 ∷ []))) (append_hash m s lm ls)
    ∙ ap (option_and_then (value [])) (hash_pair (m ++ s) (omega (arith, length-append m s)))

step_left : (m s : List ℕ) → length m ≡ 32 → length s ≡ 32 → value (Prepend s ∷ Sha256 ∷ []) m ≡ Some (node s m)
step_left m s lm ls =
    ap (option_and_then (value (Sha256 ∷ []))) (prepend_hash m s lm ls)
    ∙ ap (option_and_then (value [])) (hash_pair (s ++ m) (omega (arith, length-append s m)))

-- a path leads to the root
Leads : ℕ → Type 0
Leads h = (leaves : List (List ℕ)) (i : ℕ) → AreHashes leaves → length leaves ≤ 2 ^ h → i < length leaves
    → value (path_within h leaves i) (get_or leaves i []) ≡ Some (root_within h leaves)

leads_by : (h : ℕ) (leaves : List (List ℕ)) (i : ℕ) (more here : Bool) → nat_lt (2 ^ h) (length leaves) ≡ more → nat_lt i (2 ^ h) ≡ here
    → Leads h → AreHashes leaves → length leaves ≤ 2 ^ suc h → i < length leaves
    → value (path_within (suc h) leaves i) (get_or leaves i []) ≡ Some (root_within (suc h) leaves)
unfolding Leads
leads_by h leaves i false here e f below are fits within =
    let lower : length leaves ≤ 2 ^ h = ltb-false (2 ^ h) (length leaves) e in
    rw (path_lower h leaves i lower, root_lower h leaves lower) (below leaves i are lower within)
leads_by h leaves i true true e f below are fits within =
    let more : 2 ^ h < length leaves = ltb-true (2 ^ h) (length leaves) e in
    let here : i < 2 ^ h = ltb-true i (2 ^ h) f in
    let left : List (List ℕ) = take (2 ^ h) leaves in
    let right : List (List ℕ) = drop (2 ^ h) leaves in
    let counted : length left ≡ 2 ^ h = length-take-le (2 ^ h) leaves (omega arith) in
    let first = below left i (hashes_take (2 ^ h) leaves are) (omega arith) (omega arith) in
    let l : length (root_within h left) ≡ 32 = length_root h left (hashes_take (2 ^ h) leaves are) (omega (arith, counted, here)) in
    let r : length (root_within h right) ≡ 32 = length_root h right (hashes_drop (2 ^ h) leaves are) (omega (arith, length-drop (2 ^ h) leaves)) in
    rw (path_left h leaves i more here, root_split h leaves more)
    (value_then (path_within h left i) (Append (root_within h right) ∷ Sha256 ∷ []) (Some (get_or leaves i []))
    ∙ ap (option_and_then (value (Append (root_within h right) ∷ Sha256 ∷ [])))
    (ap (value (path_within h left i)) (sym (get_or-take (2 ^ h) leaves i [] here)) ∙ first)
    ∙ step_right (root_within h left) (root_within h right) l r)
leads_by h leaves i true false e f below are fits within =
    let more : 2 ^ h < length leaves = ltb-true (2 ^ h) (length leaves) e in
    let there : 2 ^ h ≤ i = ltb-false i (2 ^ h) f in
    let left : List (List ℕ) = take (2 ^ h) leaves in
    let right : List (List ℕ) = drop (2 ^ h) leaves in
    let j : ℕ = i - 2 ^ h in
    let counted : length left ≡ 2 ^ h = length-take-le (2 ^ h) leaves (omega arith) in
    let left_some : 0 < length left = omega (arith, counted, fits, more, pow-suc 2 h) in
    let first = below right j (hashes_drop (2 ^ h) leaves are) (omega (arith, length-drop (2 ^ h) leaves, pow-suc 2 h)) (omega (arith, length-drop (2 ^ h) leaves)) in
    let l : length (root_within h left) ≡ 32 = length_root h left (hashes_take (2 ^ h) leaves are) left_some in
    let r : length (root_within h right) ≡ 32 = length_root h right (hashes_drop (2 ^ h) leaves are) (omega (arith, length-drop (2 ^ h) leaves)) in
    let same : get_or right j [] ≡ get_or leaves i [] =
    get_or-drop (2 ^ h) leaves j [] ∙ ap (λ k. get_or leaves k []) {x = 2 ^ h + j} {y = i} (omega arith) in
    rw (path_right h leaves i more there, root_split h leaves more)
    (value_then (path_within h right j) (Prepend (root_within h left) ∷ Sha256 ∷ []) (Some (get_or leaves i []))
    ∙ ap (option_and_then (value (Prepend (root_within h left) ∷ Sha256 ∷ [])))
    (ap (value (path_within h right j)) (sym same) ∙ first)
    ∙ step_left (root_within h right) (root_within h left) r l)

leads_within : (h : ℕ) → Leads h
unfolding Leads root_within path_within
leads_within zero leaves i are fits within = ap (λ k. Some (get_or leaves k [])) {x = i} {y = 0} (omega arith)
leads_within (suc h) leaves i are fits within =
    leads_by h leaves i (nat_lt (2 ^ h) (length leaves)) (nat_lt i (2 ^ h)) refl refl (leads_within h) are fits within

pub path_leads : (leaves : List (List ℕ)) (i : ℕ) → AreHashes leaves → i < length leaves → value (path leaves i) (get_or leaves i []) ≡ Some (root leaves)
unfolding Leads
path_leads leaves i are within =
    let h : ℕ = length leaves in
    let own : length leaves ≤ 2 ^ h = omega (arith, below_power (length leaves)) in
    ap (λ p. value p (get_or leaves i [])) (sym (path_at_height h leaves i own))
    ∙ leads_within h leaves i are own within
    ∙ ap (λ r. Some r) (root_at_height h leaves own)

-- the code's steps down
pub path_at_zero : (n : ℕ) (leaves : List (List ℕ)) (i : ℕ) → n ≡ 0 → path_within n leaves i ≡ []
unfolding path_within
path_at_zero n leaves i e = rw e refl

pub skipped : (n m : ℕ) (leaves : List (List ℕ)) (i : ℕ) → n ≡ suc m → length leaves ≤ 2 ^ m → path_within m leaves i ≡ path_within n leaves i
skipped n m leaves i e fits = rw e (sym (path_lower m leaves i fits))

left_made : (n m : ℕ) (leaves left right : List (List ℕ)) (i : ℕ) (ops longer : List Op) (other : List ℕ)
    → n ≡ suc m → length leaves ≤ 2 ^ n → 2 ^ m < length leaves → i < 2 ^ m → left ≡ take (2 ^ m) leaves → right ≡ drop (2 ^ m) leaves
    → ops ≡ path_within m left i → other ≡ root right → longer ≡ ops ++ Append other ∷ Sha256 ∷ [] → longer ≡ path_within n leaves i
left_made n m leaves left right i ops longer other e fits more here l r p o made =
    let two : length leaves ≤ 2 ^ suc m = subst (λ (k : ℕ). length leaves ≤ 2 ^ k) e fits in
    let few : length (drop (2 ^ m) leaves) ≤ 2 ^ m = omega (arith, length-drop (2 ^ m) leaves, pow-suc 2 m) in
    let p′ : ops ≡ path_within m (take (2 ^ m) leaves) i = p ∙ ap (λ x. path_within m x i) l in
    let o′ : other ≡ root_within m (drop (2 ^ m) leaves) = o ∙ ap root r ∙ sym (root_at_height m (drop (2 ^ m) leaves) few) in
    rw e (made ∙ (λ j. p′ j ++ Append (o′ j) ∷ Sha256 ∷ []) ∙ sym (path_left m leaves i more here))

right_made : (n m : ℕ) (leaves left right : List (List ℕ)) (i j : ℕ) (ops longer : List Op) (other : List ℕ)
    → n ≡ suc m → 2 ^ m < length leaves → 2 ^ m ≤ i → j ≡ i - 2 ^ m → left ≡ take (2 ^ m) leaves → right ≡ drop (2 ^ m) leaves
    → ops ≡ path_within m right j → other ≡ root left → longer ≡ ops ++ Prepend other ∷ Sha256 ∷ [] → longer ≡ path_within n leaves i
right_made n m leaves left right i j ops longer other e more there k l r p o made =
    let full : length (take (2 ^ m) leaves) ≤ 2 ^ m = omega (arith, length-take-le (2 ^ m) leaves (omega arith)) in
    let p′ : ops ≡ path_within m (drop (2 ^ m) leaves) (i - 2 ^ m) = p ∙ (λ s. path_within m (r s) (k s)) in
    let o′ : other ≡ root_within m (take (2 ^ m) leaves) = o ∙ ap root l ∙ sym (root_at_height m (take (2 ^ m) leaves) full) in
    rw e (made ∙ (λ s. p′ s ++ Prepend (o′ s) ∷ Sha256 ∷ []) ∙ sym (path_right m leaves i more there))

-- the same after other operations
pub left_added : (n m : ℕ) (leaves left right : List (List ℕ)) (i : ℕ) (old ops longer : List Op) (other : List ℕ)
    → n ≡ suc m → length leaves ≤ 2 ^ n → 2 ^ m < length leaves → i < 2 ^ m → left ≡ take (2 ^ m) leaves → right ≡ drop (2 ^ m) leaves
    → ops ≡ old ++ path_within m left i → other ≡ root right → longer ≡ ops ++ Append other ∷ Sha256 ∷ [] → longer ≡ old ++ path_within n leaves i
left_added n m leaves left right i old ops longer other e fits more here l r p o made =
    let steps : List Op = Append other ∷ Sha256 ∷ [] in
    made ∙ ap (λ x. x ++ steps) p ∙ append_assoc old (path_within m left i) steps
    ∙ ap (λ x. old ++ x) (left_made n m leaves left right i (path_within m left i) (path_within m left i ++ steps) other e fits more here l r refl o refl)

pub right_added : (n m : ℕ) (leaves left right : List (List ℕ)) (i j : ℕ) (old ops longer : List Op) (other : List ℕ)
    → n ≡ suc m → 2 ^ m < length leaves → 2 ^ m ≤ i → j ≡ i - 2 ^ m → left ≡ take (2 ^ m) leaves → right ≡ drop (2 ^ m) leaves
    → ops ≡ old ++ path_within m right j → other ≡ root left → longer ≡ ops ++ Prepend other ∷ Sha256 ∷ [] → longer ≡ old ++ path_within n leaves i
right_added n m leaves left right i j old ops longer other e more there k l r p o made =
    let steps : List Op = Prepend other ∷ Sha256 ∷ [] in
    made ∙ ap (λ x. x ++ steps) p ∙ append_assoc old (path_within m right j) steps
    ∙ ap (λ x. old ++ x) (right_made n m leaves left right i j (path_within m right j) (path_within m right j ++ steps) other e more there k l r refl o refl)

pub right_fits : (n m : ℕ) (leaves : List (List ℕ)) (half : ℕ) → n ≡ suc m → half ≡ 2 ^ m → length leaves ≤ 2 ^ n
    → length (take (length leaves - half) (drop half leaves)) ≤ 2 ^ m
right_fits n m leaves half e h fits =
    let two : length leaves ≤ 2 ^ suc m = subst (λ (k : ℕ). length leaves ≤ 2 ^ k) e fits in
    let count = ap length (take_rest leaves half) ∙ length-drop half leaves in
    omega (arith, pow-suc 2 m)
