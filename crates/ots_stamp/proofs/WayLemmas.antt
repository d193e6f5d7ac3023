-- Leaves under one root, and the ways to it.
use Rattle.std.proofs.Common.{◌≡◌, ℕ, zero, suc, ◌+◌, ◌-◌, ◌*◌, ◌^◌, ◌<◌, ◌≤◌, List, [], ◌∷◌, ◌++◌, length, take, drop, nat_lt, Bool, true, false, refl, ap, ◌∙◌, arith, length-append, length-take-le, sym}
use Rattle.std.specs.Prelude.{Option, None, Some}
use Rattle.std.specs.Option.{SomeIff}
use Rattle.std.proofs.lemmas.Bool.{ltb-true, ltb-false}
use Rattle.std.proofs.Math.Nat.{pow-suc}
use Rattle.std.proofs.lemmas.Nat.{pow_pos}
use Rattle.ots_ops.specs.declared.op.Op.{Op}
use Rattle.ots_ops.specs.declared.op.Op.TheVariants.{Sha256, Append, Prepend}
use Rattle.ots_merkle.specs.CalendarTree.{path, path_within, root, root_if_any, root_within}
use Rattle.ots_merkle.proofs.PathLaws.{path_left, path_lower, path_right, path_short, short_within}
use Rattle.ots_stamp.specs.Ways.{IsDepth, KeepsWays}

-- the one value that there is
pub some_same : (r : Option (List ℕ)) (is : Type 0) (bytes value : List ℕ) → SomeIff r is bytes → r ≡ Some value → value ≡ bytes
some_same None is bytes value iff some = absurd cc
some_same (Some made) is bytes value iff some = let same = iff.1 in cc (some, same)

-- the root that there is
pub root_same : (leaves : List (List ℕ)) (any : Option (List ℕ)) (top : List ℕ) → any ≡ root_if_any leaves → any ≡ Some top → top ≡ root leaves
root_same [] any top is some = absurd cc
root_same (leaf ∷ leaves) any top is some = cc (is, some)

-- ---- the longest path is that of the first leaf

-- one step more
stepped : (p : List Op) (o q : Op) → length (p ++ o ∷ q ∷ []) ≡ length p + 2
stepped p o q = omega (arith, length-append p (o ∷ q ∷ []))

left_step : (h : ℕ) (leaves : List (List ℕ)) (i : ℕ) → 2 ^ h < length leaves → i < 2 ^ h
    → length (path_within (suc h) leaves i) ≡ length (path_within h (take (2 ^ h) leaves) i) + 2
left_step h leaves i more here =
    ap length (path_left h leaves i more here) ∙ stepped (path_within h (take (2 ^ h) leaves) i) (Append (root_within h (drop (2 ^ h) leaves))) Sha256

right_step : (h : ℕ) (leaves : List (List ℕ)) (i : ℕ) → 2 ^ h < length leaves → 2 ^ h ≤ i
    → length (path_within (suc h) leaves i) ≡ length (path_within h (drop (2 ^ h) leaves) (i - 2 ^ h)) + 2
right_step h leaves i more there =
    ap length (path_right h leaves i more there) ∙ stepped (path_within h (drop (2 ^ h) leaves) (i - 2 ^ h)) (Prepend (root_within h (take (2 ^ h) leaves))) Sha256

-- in a full tree of a height it has a step for each level
full_path : (h : ℕ) (leaves : List (List ℕ)) → length leaves ≡ 2 ^ h → length (path_within h leaves 0) ≡ 2 * h
unfolding path_within
full_path zero leaves full = refl
full_path (suc h) leaves full =
    let more : 2 ^ h < length leaves = omega (arith, full, pow-suc 2 h, pow_pos h) in
    let below : length (path_within h (take (2 ^ h) leaves) 0) ≡ 2 * h = full_path h (take (2 ^ h) leaves) (length-take-le (2 ^ h) leaves (omega (arith, more))) in
    omega (arith, left_step h leaves 0 more (pow_pos h), below)

first_by : (h : ℕ) (leaves : List (List ℕ)) (i : ℕ) (more here : Bool) → nat_lt (2 ^ h) (length leaves) ≡ more → nat_lt i (2 ^ h) ≡ here
    → ((part : List (List ℕ)) (j : ℕ) → length (path_within h part j) ≤ length (path_within h part 0))
    → length (path_within (suc h) leaves i) ≤ length (path_within (suc h) leaves 0)
first_by h leaves i false here e f below =
    let fits : length leaves ≤ 2 ^ h = ltb-false (2 ^ h) (length leaves) e in
    omega (arith, ap length (path_lower h leaves i fits), ap length (path_lower h leaves 0 fits), below leaves i)
first_by h leaves i true true e f below =
    let more : 2 ^ h < length leaves = ltb-true (2 ^ h) (length leaves) e in
    omega (arith, left_step h leaves i more (ltb-true i (2 ^ h) f), left_step h leaves 0 more (pow_pos h), below (take (2 ^ h) leaves) i)
first_by h leaves i true false e f below =
    let more : 2 ^ h < length leaves = ltb-true (2 ^ h) (length leaves) e in
    omega (
      arith,
      right_step h leaves i more (ltb-false i (2 ^ h) f),
      left_step h leaves 0 more (pow_pos h),
      short_within h (drop (2 ^ h) leaves) (i - 2 ^ h),
      full_path h (take (2 ^ h) leaves) (length-take-le (2 ^ h) leaves (omega (arith, more))),
    )

first_within : (h : ℕ) (leaves : List (List ℕ)) (i : ℕ) → length (path_within h leaves i) ≤ length (path_within h leaves 0)
unfolding path_within
first_within zero leaves i = omega arith
first_within (suc h) leaves i = first_by h leaves i (nat_lt (2 ^ h) (length leaves)) (nat_lt i (2 ^ h)) refl refl (first_within h)

pub first_longest : (leaves : List (List ℕ)) (i : ℕ) → length (path leaves i) ≤ length (path leaves 0)
unfolding path
first_longest leaves i = first_within (length leaves) leaves i

-- so its operations are counted
pub is_depth : (leaves : List (List ℕ)) (depth : ℕ) → 1 ≤ length leaves → depth ≡ length (path leaves 0) + 2 → IsDepth leaves depth
is_depth leaves depth least is = record {
  most = λ i below. omega (arith, is, first_longest leaves i);
  longest = (0, least, sym is);
}

-- what is counted is the path of the first leaf of the tree that has grown
pub first_counted : (leaves grown : List (List ℕ)) (ops counted : List Op) → grown ≡ leaves → ops ≡ path grown 0 → counted ≡ ops
    → length counted ≡ length (path leaves 0)
first_counted leaves grown ops counted same is all = ap length (all ∙ is ∙ ap (λ (ls : List (List ℕ)). path ls 0) same)

pub first_short : (leaves : List (List ℕ)) → length leaves < 2 ^ 32 → length (path leaves 0) ≤ 64
first_short leaves most = path_short 32 leaves 0 (omega (arith, most))

-- at most 2 ^ h leaves have paths of at most 2 * h operations
pub shallow : (leaves : List (List ℕ)) (depth h : ℕ) → IsDepth leaves depth → length leaves ≤ 2 ^ h → depth ≤ 2 * h + 2
shallow leaves depth h deepest most = omega (arith, path_short h leaves deepest.longest.0 most, deepest.longest.2)

-- what is kept
pub keeps_ways : (leaves grown : List (List ℕ)) (top : List ℕ) (depth : ℕ) → 1 ≤ length leaves → length leaves < 2 ^ 32 → grown ≡ leaves → top ≡ root leaves
    → depth ≡ length (path leaves 0) + 2 → KeepsWays leaves grown top depth
keeps_ways leaves grown top depth least most grown-is top-is is =
    let deepest = is_depth leaves depth least is in
    record {
      least = least;
      most = most;
      grown_is = grown-is;
      top_is = top-is;
      depth_is = deepest;
      shallow = shallow leaves depth 32 deepest (omega (arith, most));
    }
