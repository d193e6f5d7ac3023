-- The nodes of a level and then one more, and the level above them.
use Rattle.std.proofs.Common.{◌≡◌, ℕ, zero, suc, ◌+◌, ◌*◌, ◌/◌, ◌%◌, ◌^◌, ◌<◌, ◌≤◌, List, [], ◌∷◌, ◌++◌, length, take, drop, Option, Some, None, Bool, true, false, refl, sym, ap, ◌∙◌, subst, arith, append-nil, length-append, length-drop, mul-suc, mul-le-mul_left, Vec}
use Rattle.std.specs.Prelude.{option_to_list, nat_lt, if◌then◌else◌}
use Rattle.std.proofs.Math.Nat.{div-eq_of_lt, mod-eq_of_lt}
use Rattle.std.proofs.lemmas.Bool.{le-ltb, ltb-true, ltb-false}
use Rattle.std.specs.declared.alloc.Global.{Global}
use Rattle.std.proofs.lemmas.List.{take_all, take_at, drop-append-le, take-append-le}
use Rattle.ots_merkle.specs.CalendarTree.{root, root_if_any, path}
use Rattle.ots_growing_tree.specs.Runs.{run_roots, whole_roots}
use Rattle.ots_growing_tree.specs.TreeParts.{BeginAbove, rest_of}
use Rattle.ots_growing_tree.specs.declared.growing.TheConstants.{GROUP, RUN}
use Rattle.ots_growing_tree.proofs.RunRoots.{Fills, length-run_roots, path_through_run, roots_of_prefix, root_of_runs, run_roots-snoc}

-- the roots of the whole runs, and that of what closes them
abbrev pub closed_roots : ℕ → List (List ℕ) → List (List ℕ) → List (List ℕ)
closed_roots s level last = whole_roots s level ++ option_to_list (root_if_any (rest_of s level ++ last))

pub some_root : (xs : List (List ℕ)) → 0 < length xs → root_if_any xs ≡ Some (root xs)
some_root [] some = absurd (omega (arith, some))
some_root (x ∷ xs) some = refl

-- the numbers of a level of q whole runs and r nodes after them
pub record Counted (s q r : ℕ) (level last : List (List ℕ)) : Type 0 where
  pub whole : length level / s ≡ q
  pub sum : length level ≡ s * q + r
  pub low : r < s
  pub one : length last ≤ 1

-- They are the roots of runs that the nodes and the one more fill.
pub record Filled (s : ℕ) (level last : List (List ℕ)) : Type 0 where
  pub count : ℕ
  pub fills : Fills s count (level ++ last)
  pub roots : closed_roots s level last ≡ run_roots s count (level ++ last)

pub filled : (s q r : ℕ) (level last : List (List ℕ)) → Counted s q r level last → 0 < length (level ++ last) → Filled s level last
filled s q r level last n some = by (rest_of s level ++ last) refl
  where
    early : run_roots s q (level ++ last) ≡ run_roots s q level
    early =
        sym (roots_of_prefix s q (length level) (level ++ last) (omega (arith, n.sum))) ∙ ap (run_roots s q) (take_at level last (length level) refl)

    after : drop (s * q) (level ++ last) ≡ rest_of s level ++ last
    after = drop-append-le (s * q) level last (omega (arith, n.sum)) ∙ ap (λ k. drop (s * k) level ++ last) (sym n.whole)

    long : length (rest_of s level ++ last) ≡ r + length last
    long = omega (arith, length-append (rest_of s level) last, length-drop (s * (length level / s)) level, ap (λ k. s * k) n.whole, n.sum)

    positive : (k : ℕ) → 0 < s * k → 0 < k
    positive zero h = absurd (omega (arith, h))
    positive (suc k) h = omega arith

    by : (closing : List (List ℕ)) → closing ≡ rest_of s level ++ last → Filled s level last
    by [] is = record {
      count = q;
      fills = record {
        some = positive q (omega (arith, some, length-append level last, n.sum, long, ap length is));
        fits = omega (arith, length-append level last, n.sum, long, ap length is);
        last = omega (arith, length-append level last, n.sum, long, ap length is, n.low);
      };
      roots = ap (λ z. whole_roots s level ++ option_to_list (root_if_any z)) (sym is) ∙ append-nil (whole_roots s level) ∙ ap (λ k. run_roots s k level) n.whole ∙ sym early;
    }
    by (x ∷ xs) is = record {
      count = suc q;
      fills = record {
        some = omega arith;
        fits = omega (arith, length-append level last, n.sum, n.low, n.one, mul-suc s q);
        last = omega (arith, length-append level last, n.sum, long, ap length is, mul-suc s q);
      };
      roots =
          ap (λ z. whole_roots s level ++ option_to_list z) (some_root (rest_of s level ++ last) (omega (arith, ap length is)))
          ∙ (let own : rest_of s level ++ last ≡ take s (drop (s * q) (level ++ last)) = sym (ap (take s) after ∙ take_all s (rest_of s level ++ last) (omega (arith, long, n.low, n.one))) in
          let roots : whole_roots s level ≡ run_roots s q (level ++ last) = ap (λ k. run_roots s k level) n.whole ∙ sym early in
          λ i. roots i ++ root (own i) ∷ [])
          ∙ sym (run_roots-snoc s q (level ++ last));
    }

-- ---- the root and the paths

empty_list : {X : Type 0} (xs : List X) → length xs ≡ 0 → xs ≡ []
empty_list [] none = refl
empty_list (x ∷ xs) none = absurd (omega (arith, none))

no_runs_in : (s n : ℕ) (xs : List (List ℕ)) → n ≡ 0 → run_roots s n xs ≡ []
unfolding run_roots
no_runs_in s zero xs none = refl
no_runs_in s (suc n) xs none = absurd (omega (arith, none))

nothing_closed : (s q r : ℕ) (level last : List (List ℕ)) → Counted s q r level last → length (level ++ last) ≡ 0 → closed_roots s level last ≡ []
nothing_closed s q r level last n none =
    let whole : length level / s ≡ 0 = n.whole ∙ no_runs_of q (omega (arith, none, length-append level last, n.sum, n.low)) in
    let closing : rest_of s level ++ last ≡ [] =
    empty_list (rest_of s level ++ last) (omega (arith, length-append (rest_of s level) last, length-drop (s * (length level / s)) level, none, length-append level last)) in
    ap (λ z. whole_roots s level ++ option_to_list (root_if_any z)) closing
    ∙ append-nil (whole_roots s level) ∙ no_runs_in s (length level / s) level whole
  where
    no_runs_of : (k : ℕ) → (s * k ≡ 0) × (0 < s) → k ≡ 0
    no_runs_of zero h = refl
    no_runs_of (suc k) h = absurd (omega (arith, h, mul-suc s k))

-- The level above has the same root.
pub root_closed : (m q r : ℕ) (level last : List (List ℕ)) → Counted (2 ^ m) q r level last → root_if_any (level ++ last) ≡ root_if_any (closed_roots (2 ^ m) level last)
root_closed m q r level last n = by (level ++ last) refl
  where
    by : (all : List (List ℕ)) → all ≡ level ++ last → root_if_any (level ++ last) ≡ root_if_any (closed_roots (2 ^ m) level last)
    by [] is = ap root_if_any (sym is ∙ sym (nothing_closed (2 ^ m) q r level last n (omega (arith, ap length is))))
    by (x ∷ xs) is =
        let f = filled (2 ^ m) q r level last n (omega (arith, ap length is)) in
        some_root (level ++ last) (omega (arith, ap length is))
        ∙ ap Some (root_of_runs m f.count (level ++ last) f.fills)
        ∙ sym (ap root_if_any f.roots ∙ some_root (run_roots (2 ^ m) f.count (level ++ last)) (omega (arith, length-run_roots (2 ^ m) f.count (level ++ last), f.fills.some)))

-- The path of a node leads through its run, and then through the level above.
pub path_closed : (m q r k j : ℕ) (level last own : List (List ℕ)) → Counted (2 ^ m) q r level last → j < 2 ^ m → 2 ^ m * k + j < length (level ++ last)
    → own ≡ take (2 ^ m) (drop (2 ^ m * k) (level ++ last))
    → path (level ++ last) (2 ^ m * k + j) ≡ path own j ++ path (closed_roots (2 ^ m) level last) k
path_closed m q r k j level last own n low inside is =
    let f = filled (2 ^ m) q r level last n (omega (arith, inside)) in
    path_through_run m f.count (level ++ last) k j f.fills low inside
    ∙ (let back = sym is in
    let roots = sym f.roots in
    λ i. path (back i) j ++ path (roots i) k)

-- the nodes of one run
pub own_run : (s q r k : ℕ) (level last : List (List ℕ)) → Counted s q r level last → k < q → take s (drop (s * k) level) ≡ take s (drop (s * k) (level ++ last))
own_run s q r k level last n less =
    let fits : s * k + s ≤ length level = omega (arith, n.sum, mul-le-mul_left {m = suc k} {n = q} s less, mul-suc s k) in
    sym (take-append-le s (drop (s * k) level) last (omega (arith, length-drop (s * k) level, fits)))
    ∙ ap (take s) (sym (drop-append-le (s * k) level last (omega (arith, fits))))

pub own_closing : (s q r k : ℕ) (level last : List (List ℕ)) → Counted s q r level last → k ≡ q → rest_of s level ++ last ≡ take s (drop (s * k) (level ++ last))
own_closing s q r k level last n same =
    sym (take_all s (rest_of s level ++ last) (omega (arith, length-append (rest_of s level) last, length-drop (s * (length level / s)) level, ap (λ z. s * z) n.whole, n.sum, n.low, n.one)))
    ∙ ap (take s) (ap (λ z. drop (s * z) level ++ last) (n.whole ∙ sym same)
    ∙ sym (drop-append-le (s * k) level last (omega (arith, n.sum, ap (λ z. s * z) same))))

-- ---- groups

pub at_most_one : {X : Type 0} (last : Option X) → length (option_to_list last) ≤ 1
at_most_one None = omega arith
at_most_one (Some x) = omega arith

pub counted_group : (level : List (List ℕ)) (last : Option (List ℕ)) → Counted GROUP (length level / GROUP) (length level % GROUP) level (option_to_list last)
counted_group level last = record { whole = refl; sum = omega arith; low = omega arith; one = at_most_one last }

pub counted_run : (leaves : List (List ℕ)) → Counted RUN (length leaves / RUN) (length leaves % RUN) leaves []
counted_run leaves = record { whole = refl; sum = omega arith; low = omega arith; one = omega arith }

-- a level that is less than a group
pub rest_small : (level : List (List ℕ)) → length level < GROUP → rest_of GROUP level ≡ level
rest_small level small = ap (λ k. drop k level) {x = GROUP * (length level / GROUP)} {y = 0} (omega (arith, small))

-- the levels above, where there are some, and where there is none
pub next_is : (above : List (Vec (List ℕ) Global)) (next : Vec (List ℕ) Global) (higher : List (Vec (List ℕ) Global)) (level : List (List ℕ)) → above ≡ next ∷ higher → BeginAbove above level
    → (length level / GROUP ≤ length next.items) × (take (length level / GROUP) next.items ≡ whole_roots GROUP level) × BeginAbove higher (take (length level / GROUP) next.items)
unfolding BeginAbove
next_is above next higher level split a = subst (λ z. BeginAbove z level) split a

pub last_is : (above : List (Vec (List ℕ) Global)) (level : List (List ℕ)) → length above ≡ 0 → BeginAbove above level → length level < GROUP
unfolding BeginAbove
last_is [] level none a = a
last_is (next ∷ higher) level none a = absurd (omega (arith, none))

-- a node has a group or a run, which has a root in the level above
pub group_inside : (level : List (List ℕ)) (last : Option (List ℕ)) (i : ℕ) → i < length (level ++ option_to_list last)
    → i / GROUP < length (closed_roots GROUP level (option_to_list last))
group_inside level last i inside =
    let f = filled GROUP (length level / GROUP) (length level % GROUP) level (option_to_list last) (counted_group level last) (omega (arith, inside)) in
    omega (arith, inside, f.fills.fits, ap length f.roots, length-run_roots GROUP f.count (level ++ option_to_list last))

pub run_inside : (leaves : List (List ℕ)) (i : ℕ) → i < length leaves → i / RUN < length (closed_roots RUN leaves [])
run_inside leaves i inside =
    let f = filled RUN (length leaves / RUN) (length leaves % RUN) leaves [] (counted_run leaves) (omega (arith, inside, length-append leaves [])) in
    omega (arith, inside, f.fills.fits, ap length f.roots, length-run_roots RUN f.count (leaves ++ []), length-append leaves [])

-- the path of a node leads through its group
pub path_group : (level : List (List ℕ)) (last : Option (List ℕ)) (i : ℕ) (closing own : List (List ℕ)) → i < length (level ++ option_to_list last)
    → closing ≡ rest_of GROUP level ++ option_to_list last
    → own ≡ (if nat_lt (i / GROUP) (length level / GROUP) then take GROUP (drop (GROUP * (i / GROUP)) level) else closing)
    → path (level ++ option_to_list last) i ≡ path own (i % GROUP) ++ path (closed_roots GROUP level (option_to_list last)) (i / GROUP)
path_group level last i closing own inside closes is =
    ap (path (level ++ option_to_list last)) {x = i} {y = 2 ^ 2 * (i / GROUP) + i % GROUP} (omega arith)
    ∙ path_closed 2 (length level / GROUP) (length level % GROUP) (i / GROUP) (i % GROUP) level (option_to_list last) own (counted_group level last) (omega arith) (omega (arith, inside))
    (is ∙ by (nat_lt (i / GROUP) (length level / GROUP)) refl)
  where
    n : Counted GROUP (length level / GROUP) (length level % GROUP) level (option_to_list last)
    n = counted_group level last

    by : (whole : Bool) → nat_lt (i / GROUP) (length level / GROUP) ≡ whole
        → (if nat_lt (i / GROUP) (length level / GROUP) then take GROUP (drop (GROUP * (i / GROUP)) level) else closing)
        ≡ take GROUP (drop (GROUP * (i / GROUP)) (level ++ option_to_list last))
    by true e = rw e (own_run GROUP (length level / GROUP) (length level % GROUP) (i / GROUP) level (option_to_list last) n (ltb-true (i / GROUP) (length level / GROUP) e))
    by false e =
        rw e (closes ∙ own_closing GROUP (length level / GROUP) (length level % GROUP) (i / GROUP) level (option_to_list last) n
        (omega (arith, ltb-false (i / GROUP) (length level / GROUP) e, inside, length-append level (option_to_list last), n.one)))

-- in a level that is less than a group the path ends there
pub path_in_group : (level : List (List ℕ)) (last : Option (List ℕ)) (i : ℕ) (closing own : List (List ℕ)) → i < length (level ++ option_to_list last) → length level < GROUP
    → closing ≡ rest_of GROUP level ++ option_to_list last
    → own ≡ (if nat_lt (i / GROUP) (length level / GROUP) then take GROUP (drop (GROUP * (i / GROUP)) level) else closing)
    → path own (i % GROUP) ≡ path (level ++ option_to_list last) i
path_in_group level last i closing own inside small closes is =
    let one : length (option_to_list last) ≤ 1 = at_most_one last in
    let low : i < GROUP = omega (arith, inside, length-append level (option_to_list last), one, small) in
    let none : length level / GROUP ≤ i / GROUP = omega (arith, div-eq_of_lt {n = length level} {m = GROUP} small) in
    let all : own ≡ level ++ option_to_list last =
    is ∙ rw (le-ltb (i / GROUP) (length level / GROUP) none) (closes ∙ ap (λ z. z ++ option_to_list last) (rest_small level small)) in
    let index : i % GROUP ≡ i = mod-eq_of_lt {n = i} {m = GROUP} low in
    λ j. path (all j) (index j)

-- the path of a leaf leads through its run
pub path_run : (leaves : List (List ℕ)) (i : ℕ) (run : List (List ℕ)) → i < length leaves → run ≡ take RUN (drop (RUN * (i / RUN)) leaves)
    → path leaves i ≡ path run (i % RUN) ++ path (closed_roots RUN leaves []) (i / RUN)
path_run leaves i run inside is =
    let whole = append-nil leaves in
    let index : i ≡ 2 ^ 4 * (i / RUN) + i % RUN = omega arith in
    sym (ap (λ z. path z i) whole)
    ∙ ap (path (leaves ++ [])) index
    ∙ path_closed 4 (length leaves / RUN) (length leaves % RUN) (i / RUN) (i % RUN) leaves [] run (counted_run leaves) (omega arith) (omega (arith, inside, ap length whole))
    (is ∙ ap (λ z. take RUN (drop (RUN * (i / RUN)) z)) (sym whole))
