-- The paths of a tree's two parts, and those of the tree.
use Rattle.std.proofs.Common.{◌≡◌, ℕ, zero, suc, ◌+◌, ◌-◌, ◌^◌, ◌<◌, ◌≤◌, List, [], ◌∷◌, ◌++◌, length, take, drop, get_or, replicate, nat_lt, Bool, true, false, refl, sym, ap, ◌∙◌, subst, arith, append_assoc, append-nil}
use Rattle.std.proofs.lemmas.Bool.{ltb-true, ltb-false}
use Rattle.std.proofs.lemmas.List.{take_rest}
use Rattle.ots_ops.specs.declared.op.Op.{Op}
use Rattle.ots_ops.specs.declared.op.Op.TheVariants.{Sha256, Append, Prepend}
use Rattle.ots_merkle.specs.declared.branch.Side.TheVariants.{Left, Right}
use Rattle.ots_merkle.specs.Hashes.{node}
use Rattle.ots_merkle.specs.CalendarTree.{root_within, path_within, path}
use Rattle.ots_merkle.specs.Extended.{Extended, step}
use Rattle.ots_merkle.proofs.PathLaws.{root_split, root_lower, path_left, path_right, path_at_height}

-- no operation is added
pub nothing_added : (first count : ℕ) (more : ℕ → List Op) (old : List (List Op)) → ((j : ℕ) → more j ≡ []) → Extended first count more old old
nothing_added first count more old none = record {
  before = λ k l. refl;
  within = λ j l. sym (append-nil (get_or old (first + j) [])) ∙ ap (λ x. get_or old (first + j) [] ++ x) (sym (none j));
  after = λ k l. refl;
}

-- the same operations, written otherwise
pub same_added : (first count : ℕ) (more more′ : ℕ → List Op) (old new : List (List Op)) → ((j : ℕ) → more j ≡ more′ j)
    → Extended first count more old new → Extended first count more′ old new
same_added first count more more′ old new same e = record {
  before = e.before;
  within = λ j l. e.within j l ∙ ap (λ x. get_or old (first + j) [] ++ x) (same j);
  after = e.after;
}

-- the same count, written otherwise
pub recounted : (first n m : ℕ) (more : ℕ → List Op) (old new : List (List Op)) → n ≡ m → Extended first n more old new → Extended first m more old new
recounted first n m more old new e x = subst (λ (k : ℕ). Extended first k more old new) e x

-- the paths of the left part and of the right part, and then a step for each
within_by : (first half others count : ℕ) (l r whole : ℕ → List Op) (sl sr : List Op) (p0 p1 p2 p3 p4 : List (List Op))
    → count ≡ half + others → Extended first half l p0 p1 → Extended (first + half) others r p1 p2
    → Extended first half (λ _. sr) p2 p3 → Extended (first + half) others (λ _. sl) p3 p4
    → ((j : ℕ) → j < half → whole j ≡ l j ++ sr) → ((j : ℕ) → j < others → whole (half + j) ≡ r j ++ sl)
    → (j : ℕ) (here : Bool) → nat_lt j half ≡ here → j < count → get_or p4 (first + j) [] ≡ get_or p0 (first + j) [] ++ whole j
within_by first half others count l r whole sl sr p0 p1 p2 p3 p4 sum a b c d wl wr j true e within =
    let here : j < half = ltb-true j half e in
    d.before (first + j) (omega arith) ∙ c.within j here
    ∙ ap (λ x. x ++ sr) (b.before (first + j) (omega arith) ∙ a.within j here)
    ∙ append_assoc (get_or p0 (first + j) []) (l j) sr
    ∙ ap (λ x. get_or p0 (first + j) [] ++ x) (sym (wl j here))
within_by first half others count l r whole sl sr p0 p1 p2 p3 p4 sum a b c d wl wr j false e within =
    let there : half ≤ j = ltb-false j half e in
    let m : ℕ = j - half in
    let k : ℕ = (first + half) + m in
    let few : m < others = omega arith in
    let place : k ≡ first + j = omega arith in
    let index : half + m ≡ j = omega arith in
    let made : get_or p4 k [] ≡ get_or p0 k [] ++ whole (half + m) =
    d.within m few
    ∙ ap (λ x. x ++ sl) (c.after k (omega arith) ∙ b.within m few ∙ ap (λ x. x ++ r m) (a.after k (omega arith)))
    ∙ append_assoc (get_or p0 k []) (r m) sl
    ∙ ap (λ x. get_or p0 k [] ++ x) (sym (wr m few)) in
    ap (λ x. get_or p4 x []) (sym place) ∙ made ∙ (λ s. get_or p0 (place s) [] ++ whole (index s))

pub both_parts : (first half others count : ℕ) (l r whole : ℕ → List Op) (sl sr : List Op) (p0 p1 p2 p3 p4 : List (List Op))
    → count ≡ half + others → Extended first half l p0 p1 → Extended (first + half) others r p1 p2
    → Extended first half (λ _. sr) p2 p3 → Extended (first + half) others (λ _. sl) p3 p4
    → ((j : ℕ) → j < half → whole j ≡ l j ++ sr) → ((j : ℕ) → j < others → whole (half + j) ≡ r j ++ sl)
    → Extended first count whole p0 p4
both_parts first half others count l r whole sl sr p0 p1 p2 p3 p4 sum a b c d wl wr = record {
  before = λ k h. d.before k (omega arith) ∙ c.before k h ∙ b.before k (omega arith) ∙ a.before k h;
  within = λ j h. within_by first half others count l r whole sl sr p0 p1 p2 p3 p4 sum a b c d wl wr j (nat_lt j half) refl h;
  after = λ k h. d.after k (omega arith) ∙ c.after k (omega arith) ∙ b.after k (omega arith) ∙ a.after k (omega arith);
}

-- the parts as the code cuts them
left_is : (m half : ℕ) (leaves : List (List ℕ)) → half ≡ 2 ^ m → take (2 ^ m) leaves ≡ take half leaves
left_is m half leaves h = ap (λ k. take k leaves) (sym h)

right_is : (m half : ℕ) (leaves : List (List ℕ)) → half ≡ 2 ^ m → drop (2 ^ m) leaves ≡ take (length leaves - half) (drop half leaves)
right_is m half leaves h = ap (λ k. drop k leaves) (sym h) ∙ sym (take_rest leaves half)

pub root_made : (n m half : ℕ) (leaves : List (List ℕ)) (left right made : List ℕ) → n ≡ suc m → half ≡ 2 ^ m → half < length leaves
    → left ≡ root_within m (take half leaves) → right ≡ root_within m (take (length leaves - half) (drop half leaves)) → made ≡ node left right
    → made ≡ root_within n leaves
root_made n m half leaves left right made e h more l r is =
    let le = l ∙ ap (root_within m) (sym (left_is m half leaves h)) in
    let re = r ∙ ap (root_within m) (sym (right_is m half leaves h)) in
    rw e (is ∙ (λ s. node (le s) (re s)) ∙ sym (root_split m leaves (omega arith)))

pub root_skipped : (n m : ℕ) (leaves : List (List ℕ)) → n ≡ suc m → length leaves ≤ 2 ^ m → root_within m leaves ≡ root_within n leaves
root_skipped n m leaves e fits = rw e (sym (root_lower m leaves fits))

pub root_at_zero : (n : ℕ) (leaves : List (List ℕ)) → n ≡ 0 → get_or leaves 0 [] ≡ root_within n leaves
unfolding root_within
root_at_zero n leaves e = rw e refl

pub left_part : (n m half : ℕ) (leaves : List (List ℕ)) (right : List ℕ) → n ≡ suc m → half ≡ 2 ^ m → half < length leaves
    → right ≡ root_within m (take (length leaves - half) (drop half leaves))
    → (j : ℕ) → j < half → path_within n leaves j ≡ path_within m (take half leaves) j ++ step Right right
left_part n m half leaves right e h more r j here =
    let l = left_is m half leaves h in
    let o = ap (root_within m) (right_is m half leaves h) ∙ sym r in
    rw e (path_left m leaves j (omega arith) (omega arith) ∙ (λ s. path_within m (l s) j ++ Append (o s) ∷ Sha256 ∷ []))

pub right_part : (n m half : ℕ) (leaves : List (List ℕ)) (left : List ℕ) → n ≡ suc m → half ≡ 2 ^ m → half < length leaves
    → left ≡ root_within m (take half leaves)
    → (j : ℕ) → j < length leaves - half → path_within n leaves (half + j) ≡ path_within m (take (length leaves - half) (drop half leaves)) j ++ step Left left
right_part n m half leaves left e h more l j here =
    let r = right_is m half leaves h in
    let o = ap (root_within m) (left_is m half leaves h) ∙ sym l in
    let k : half + j - 2 ^ m ≡ j = omega arith in
    rw e (path_right m leaves (half + j) (omega arith) (omega arith) ∙ (λ s. path_within m (r s) (k s) ++ Prepend (o s) ∷ Sha256 ∷ []))

-- paths that had no step are the leaves' paths
nothing_at : (n k : ℕ) → get_or (replicate n (let none : List Op = [] in none)) k [] ≡ []
nothing_at zero k = refl
nothing_at (suc n) zero = refl
nothing_at (suc n) (suc k) = nothing_at n k

pub all_paths : (new : List (List Op)) (n : ℕ) (leaves : List (List ℕ))
    → Extended 0 (length leaves) (λ j. path_within 32 leaves j) (replicate n []) new → length leaves ≤ 2 ^ 32
    → (i : ℕ) → i < length leaves → get_or new i [] ≡ path leaves i
all_paths new n leaves e fits i within =
    ap (λ k. get_or new k []) {x = i} {y = 0 + i} (omega arith)
    ∙ e.within i within
    ∙ ap (λ x. x ++ path_within 32 leaves i) (nothing_at n (0 + i))
    ∙ path_at_height 32 leaves i fits
