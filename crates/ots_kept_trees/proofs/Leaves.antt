-- Leaves of commitments, and the trees over them.
use Rattle.std.proofs.Common.{◌≡◌, ℕ, ◌+◌, ◌-◌, ◌*◌, ◌/◌, ◌<◌, ◌≤◌, min, Bool, true, false, nat_lt, List, [], ◌∷◌, ◌++◌, length, take, drop, refl, sym, ap, ◌∙◌, arith, length-append, length-take, length-take-le, length-drop}
use Rattle.std.proofs.lemmas.Bool.{ltb-true, ltb-false}
use Rattle.std.proofs.lemmas.List.{take-append-le, drop-append-le, take-take, take-map, drop-map, drop-drop, drop-take, take_all}
use Rattle.std.proofs.lemmas.List.Elements.{All-weaker}
use Rattle.std.specs.Prelude.{Option, Some, None, IfSome}
use Rattle.sha2.specs.Sha256.{sha256}
use Rattle.ots_anchor.specs.Path.{hashed}
use Rattle.ots_growing_tree.specs.declared.growing.TheConstants.{RUN}
use Rattle.ots_merkle.specs.CalendarTree.{root, root_if_any}
use Rattle.ots_kept_trees.specs.Kept.{AreKept, AreLeaves, IsKept, span}
use Rattle.ots_kept_trees.specs.declared.kept.KeptTree.{KeptTree}
use Rattle.ots_kept_trees.specs.declared.trees.Trees.{Trees}

-- ---- more commitments

-- commitments after a span do not change it
pub span_more : (first count : ℕ) (xs ys : List (List ℕ)) → first + count ≤ length xs → span first count (xs ++ ys) ≡ span first count xs
span_more first count xs ys within =
    ap (take count) (drop-append-le first xs ys (omega arith)) ∙ take-append-le count (drop first xs) ys (omega (arith, length-drop first xs))

pub leaves_more : (commits more : List (List ℕ)) (first : ℕ) (hashes : List (List ℕ)) → AreLeaves commits first hashes → AreLeaves (commits ++ more) first hashes
leaves_more commits more first hashes over = record {
  within = omega (arith, length-append commits more, over.within);
  leaves = over.leaves ∙ ap hashed (sym (span_more first (length hashes) commits more over.within));
}

one_more : (commits more : List (List ℕ)) (t : KeptTree) → IsKept commits t → IsKept (commits ++ more) t
one_more commits more t is = record { leaves = leaves_more commits more t.first t.tree.leaves is.leaves; closing = is.closing }

if_more : (commits more : List (List ℕ)) (o : Option KeptTree) → IfSome o (IsKept commits) → IfSome o (IsKept (commits ++ more))
if_more commits more None is = is
if_more commits more (Some t) is = one_more commits more t is

pub kept_more : (commits more : List (List ℕ)) (t : Trees) → AreKept commits t → AreKept (commits ++ more) t
kept_more commits more t are = record {
  anchored = All-weaker (IsKept commits) (IsKept (commits ++ more)) (one_more commits more) t.anchored.items are.anchored;
  newest = if_more commits more t.newest are.newest;
}

-- ---- a tree's first leaves

-- those of the first commitments
pub first_leaves : (commits : List (List ℕ)) (first count : ℕ) (hashes : List (List ℕ)) → AreLeaves commits first hashes → count ≤ length hashes → take count hashes ≡ hashed (span first count commits)
first_leaves commits first count hashes are few =
    ap (take count) are.leaves ∙ take-map sha256 count (span first (length hashes) commits)
    ∙ ap hashed (take-take count (length hashes) (drop first commits) few)

-- at most so many of the first ones
taken : (k m n : ℕ) (xs : List (List ℕ)) (less : Bool) → nat_lt m k ≡ less → n ≡ min k m → take k (take m xs) ≡ take n xs
taken k m n xs true e is =
    let below : m < k = ltb-true m k e in
    take_all k (take m xs) (omega (arith, length-take m xs)) ∙ ap (λ (z : ℕ). take z xs) (omega (arith, below, is))
taken k m n xs false e is =
    let above : k ≤ m = ltb-false m k e in
    take-take k m xs above ∙ ap (λ (z : ℕ). take z xs) (omega (arith, above, is))

-- a run of them
pub run_leaves : (commits : List (List ℕ)) (first count begin n : ℕ) (hashes : List (List ℕ)) → AreLeaves commits first hashes → count ≤ length hashes → begin ≤ count → n ≡ min RUN (count - begin)
    → hashed (take n (drop (first + begin) commits)) ≡ take RUN (drop begin (take count hashes))
run_leaves commits first count begin n hashes are few inside is =
    let xs : List (List ℕ) = drop begin (drop first commits) in
    let m : ℕ = count - begin in
    sym (
    ap (λ (z : List (List ℕ)). take RUN (drop begin z)) (first_leaves commits first count hashes are few)
    ∙ ap (take RUN) (drop-map sha256 begin (span first count commits))
    ∙ take-map sha256 RUN (drop begin (span first count commits))
    ∙ ap (λ (z : ℕ). hashed (take RUN (drop begin (take z (drop first commits))))) {x = count} {y = begin + m} (omega (arith, inside))
    ∙ ap (λ (z : List (List ℕ)). hashed (take RUN z)) (drop-take begin m (drop first commits))
    ∙ ap hashed (taken RUN m n xs (nat_lt m RUN) refl is)
    ∙ ap (λ (z : List (List ℕ)). hashed (take n z)) (drop-drop begin first commits)
    )

-- what is left of the first leaves after their whole runs
pub cut_leaves : (hashes : List (List ℕ)) (count : ℕ) → count ≤ length hashes → take RUN (drop (RUN * (count / RUN)) (take count hashes)) ≡ drop (RUN * (count / RUN)) (take count hashes)
cut_leaves hashes count few =
    take_all RUN (drop (RUN * (count / RUN)) (take count hashes)) (omega (arith, length-drop (RUN * (count / RUN)) (take count hashes), length-take-le count hashes few))

-- the root that is found is that of some leaves
pub root_found : (o : Option (List ℕ)) (r : List ℕ) (xs : List (List ℕ)) → o ≡ root_if_any xs → o ≡ Some r → r ≡ root xs
root_found o r [] made is = absurd (let h : None ≡ Some r = sym made ∙ is in cc)
root_found o r (x ∷ xs) made is = let h : Some (root (x ∷ xs)) ≡ Some r = sym made ∙ is in cc
