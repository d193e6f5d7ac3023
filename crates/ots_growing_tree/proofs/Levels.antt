-- The levels of a growing tree: what stays, and what a new node changes.
use Rattle.std.proofs.Common.{◌≡◌, ◌≢◌, ℕ, suc, ◌+◌, ◌-◌, ◌*◌, ◌/◌, ◌%◌, ◌^◌, ◌<◌, ◌≤◌, List, [], ◌∷◌, ◌++◌, length, take, drop, get_or, refl, sym, ap, ◌∙◌, subst, arith, append-nil, length-append, length-drop, length-take-le, mul-suc, Vec, vec_capacity, All}
use Rattle.std.specs.Prelude.{Result, is_ok, true, if◌then◌else◌}
use Rattle.std.specs.declared.alloc.Global.{Global}
use Rattle.std.proofs.lemmas.List.{take_all, take_at, drop_all, drop-append-le}
use Rattle.std.proofs.lemmas.Grind.{take_at_read}
use Rattle.std.proofs.lemmas.List.Elements.{All-tail}
use Rattle.ots_merkle.specs.CalendarTree.{root}
use Rattle.ots_growing_tree.specs.Runs.{run_roots, whole_roots}
use Rattle.ots_growing_tree.specs.TreeParts.{AreAbove, AreKept, BeginAbove, HasRoom, IsOf, rest_of}
use Rattle.ots_growing_tree.specs.declared.growing.Parts.{Parts}
use Rattle.ots_growing_tree.specs.declared.growing.TheConstants.{GROUP, RUN}
use Rattle.ots_growing_tree.proofs.RunRoots.{length-run_roots, roots_of_prefix, run_roots-snoc, take-run_roots}

-- ---- levels that stay

pub kept_above : (old new : List (Vec (List ℕ) Global)) (below : List (List ℕ)) → AreKept old new → AreAbove old below → AreAbove new below
unfolding AreKept AreAbove
kept_above [] [] below k a = a
kept_above [] (y ∷ ys) below k a = absurd k
kept_above (x ∷ xs) [] below k a = absurd k
kept_above (x ∷ xs) (y ∷ ys) below k a =
    (k.0 ∙ a.0, kept_above xs ys y.items k.2 (subst (AreAbove xs) (sym k.0) a.1))

pub kept_room : (old new : List (Vec (List ℕ) Global)) (total : ℕ) → AreKept old new → HasRoom old total → HasRoom new total
unfolding AreKept HasRoom
kept_room [] [] total k r = r
kept_room [] (y ∷ ys) total k r = absurd k
kept_room (x ∷ xs) [] total k r = absurd k
kept_room (x ∷ xs) (y ∷ ys) total k r = (omega (arith, r.0, k.1), kept_room xs ys (total / GROUP) k.2 r.1)

pub kept_count : (old new : List (Vec (List ℕ) Global)) → AreKept old new → length new ≡ length old
unfolding AreKept
kept_count [] [] k = refl
kept_count [] (y ∷ ys) k = absurd k
kept_count (x ∷ xs) [] k = absurd k
kept_count (x ∷ xs) (y ∷ ys) k = ap suc (kept_count xs ys k.2)

-- ---- one node more

prefix_roots : (s q : ℕ) (xs : List (List ℕ)) (x : List ℕ) → s * q ≤ length xs → run_roots s q (xs ++ x ∷ []) ≡ run_roots s q xs
prefix_roots s q xs x fits =
    sym (roots_of_prefix s q (length xs) (xs ++ x ∷ []) fits) ∙ ap (run_roots s q) (take_at xs (x ∷ []) (length xs) refl)

-- a node that closes no run
pub open_run : (s q : ℕ) (xs : List (List ℕ)) (x : List ℕ) → length xs / s ≡ q → (length xs + 1) / s ≡ q → s * q ≤ length xs
    → whole_roots s (xs ++ x ∷ []) ≡ whole_roots s xs
open_run s q xs x before after fits =
    ap (λ k. run_roots s (k / s) (xs ++ x ∷ [])) (length-append xs (x ∷ []))
    ∙ ap (λ k. run_roots s k (xs ++ x ∷ [])) after
    ∙ prefix_roots s q xs x fits
    ∙ ap (λ k. run_roots s k xs) (sym before)

-- a node that closes one
pub closed_run : (s q : ℕ) (xs : List (List ℕ)) (x : List ℕ) → length xs / s ≡ q → (length xs + 1) / s ≡ suc q → s * q + s ≡ length xs + 1 → 0 < s
    → whole_roots s (xs ++ x ∷ []) ≡ whole_roots s xs ++ root (drop (length xs + 1 - s) (xs ++ x ∷ [])) ∷ []
closed_run s q xs x before after whole size =
    let ys : List (List ℕ) = xs ++ x ∷ [] in
    let count : length ys ≡ length xs + 1 = length-append xs (x ∷ []) in
    let last : take s (drop (s * q) ys) ≡ drop (length xs + 1 - s) ys =
    take_all s (drop (s * q) ys) (omega (arith, length-drop (s * q) ys, count, whole)) ∙ ap (λ k. drop k ys) (omega (arith, whole)) in
    ap (λ k. run_roots s (k / s) ys) count
    ∙ ap (λ k. run_roots s k ys) after
    ∙ run_roots-snoc s q ys
    ∙ (let old : run_roots s q ys ≡ whole_roots s xs = prefix_roots s q xs x (omega (arith, whole, size)) ∙ ap (λ k. run_roots s k xs) (sym before) in
    λ i. old i ++ root (last i) ∷ [])

-- the rest after whole runs, with one node more
pub open_rest : (s q : ℕ) (xs : List (List ℕ)) (x : List ℕ) → length xs / s ≡ q → (length xs + 1) / s ≡ q → s * q ≤ length xs
    → rest_of s (xs ++ x ∷ []) ≡ rest_of s xs ++ x ∷ []
open_rest s q xs x before after fits =
    ap (λ k. drop (s * (k / s)) (xs ++ x ∷ [])) (length-append xs (x ∷ []))
    ∙ ap (λ k. drop (s * k) (xs ++ x ∷ [])) after
    ∙ drop-append-le (s * q) xs (x ∷ []) fits
    ∙ ap (λ k. drop (s * k) xs ++ x ∷ []) (sym before)

pub closed_rest : (s q : ℕ) (xs : List (List ℕ)) (x : List ℕ) → (length xs + 1) / s ≡ suc q → s * q + s ≡ length xs + 1
    → rest_of s (xs ++ x ∷ []) ≡ []
closed_rest s q xs x after whole =
    ap (λ k. drop (s * (k / s)) (xs ++ x ∷ [])) (length-append xs (x ∷ []))
    ∙ ap (λ k. drop (s * k) (xs ++ x ∷ [])) after
    ∙ drop_all (s * suc q) (xs ++ x ∷ []) (omega (arith, whole, mul-suc s q, length-append xs (x ∷ [])))

-- ---- one node more in a level

-- the last of some nodes
pub last_of : (xs : List (List ℕ)) → 1 ≤ length xs → xs ≡ take (length xs - 1) xs ++ get_or xs (length xs - 1) [] ∷ []
last_of xs some =
    sym (take_all (length xs - 1 + 1) xs (omega (arith, some))) ∙ (take_at_read xs (length xs - 1) [] (omega (arith, some))).1

-- it closes no group
pub open_group : (above : List (Vec (List ℕ) Global)) (below : List (List ℕ)) → 1 ≤ length below → length below % GROUP ≢ 0
    → AreAbove above (take (length below - 1) below) → AreAbove above below
unfolding AreAbove
open_group [] below some more a = omega (arith, length-take-le (length below - 1) below (omega arith), a, some, more)
open_group (level ∷ levels) below some more a =
    let xs : List (List ℕ) = take (length below - 1) below in
    let count : length xs ≡ length below - 1 = length-take-le (length below - 1) below (omega arith) in (
      a.0 ∙ sym (ap (whole_roots GROUP) (last_of below some)
          ∙ open_run GROUP (length xs / GROUP) xs (get_or below (length below - 1) []) refl (omega (arith, count, some, more)) (omega arith)),
      a.1,
    )

-- it closes one
pub closed_group : (old new below : List (List ℕ)) (hash : List ℕ) → 1 ≤ length below → length below % GROUP ≡ 0 → old ≡ whole_roots GROUP (take (length below - 1) below)
    → hash ≡ root (drop (length below - GROUP) below) → new ≡ old ++ hash ∷ [] → new ≡ whole_roots GROUP below
closed_group old new below hash some closed is made pushed =
    let xs : List (List ℕ) = take (length below - 1) below in
    let x : List ℕ = get_or below (length below - 1) [] in
    let count : length xs ≡ length below - 1 = length-take-le (length below - 1) below (omega arith) in
    let last : hash ≡ root (drop (length xs + 1 - GROUP) (xs ++ x ∷ [])) =
    made ∙ (λ i. root (drop (place count i) (last_of below some i))) in
    pushed ∙ (λ i. is i ++ last i ∷ [])
    ∙ sym (closed_run GROUP (length xs / GROUP) xs x refl (omega (arith, count, some, closed)) (omega (arith, count, some, closed)) (omega arith))
    ∙ sym (ap (whole_roots GROUP) (last_of below some))
  where
    place : length (take (length below - 1) below) ≡ length below - 1 → length below - GROUP ≡ length (take (length below - 1) below) + 1 - GROUP
    place count = omega (arith, count, some)

-- there is a level for it, with room
pub no_level : (above : List (Vec (List ℕ) Global)) (total : ℕ) (below : List (List ℕ)) → length above ≡ 0 → 1 ≤ length below → length below % GROUP ≡ 0
    → HasRoom above total → length below ≤ total → ⊥
unfolding HasRoom
no_level [] total below none some closed room few = omega (arith, some, closed, room, few)
no_level (level ∷ levels) total below none some closed room few = omega (arith, none)

pub level_room : (above : List (Vec (List ℕ) Global)) (level : Vec (List ℕ) Global) (levels : List (Vec (List ℕ) Global)) (total : ℕ) (below : List (List ℕ)) → above ≡ level ∷ levels
    → 1 ≤ length below → length below % GROUP ≡ 0 → AreAbove above (take (length below - 1) below) → HasRoom above total → length below ≤ total
    → length level.items < vec_capacity level
unfolding HasRoom AreAbove
level_room above level levels total below split some closed a room few =
    there (subst (λ z. AreAbove z (take (length below - 1) below)) split a) (subst (λ z. HasRoom z total) split room)
  where
    there : AreAbove (level ∷ levels) (take (length below - 1) below) → HasRoom (level ∷ levels) total → length level.items < vec_capacity level
    there a room =
        omega (
          arith,
          some,
          closed,
          few,
          room.0,
          ap length a.0,
          length-run_roots GROUP (length (take (length below - 1) below) / GROUP) (take (length below - 1) below),
          length-take-le (length below - 1) below (omega arith),
        )

-- what stands above the first level
pub record Split (level : Vec (List ℕ) Global) (levels : List (Vec (List ℕ) Global)) (total : ℕ) (below : List (List ℕ)) : Type 0 where
  pub is : level.items ≡ whole_roots GROUP below
  pub above : AreAbove levels level.items
  pub room : total / GROUP ≤ vec_capacity level
  pub rooms : HasRoom levels (total / GROUP)

pub split_levels : (above : List (Vec (List ℕ) Global)) (level : Vec (List ℕ) Global) (levels : List (Vec (List ℕ) Global)) (total : ℕ) (below : List (List ℕ)) → above ≡ level ∷ levels
    → AreAbove above below → HasRoom above total → Split level levels total below
unfolding HasRoom AreAbove
split_levels above level levels total below split a room =
    there (subst (λ z. AreAbove z below) split a) (subst (λ z. HasRoom z total) split room)
  where
    there : AreAbove (level ∷ levels) below → HasRoom (level ∷ levels) total → Split level levels total below
    there a room = record { is = a.0; above = a.1; room = room.0; rooms = room.1 }

pub joined_above : (level : Vec (List ℕ) Global) (levels : List (Vec (List ℕ) Global)) (below : List (List ℕ)) → level.items ≡ whole_roots GROUP below → AreAbove levels level.items
    → AreAbove (level ∷ levels) below
unfolding AreAbove
joined_above level levels below is above = (is, above)

pub joined_room : (level : Vec (List ℕ) Global) (levels : List (Vec (List ℕ) Global)) (total : ℕ) → total / GROUP ≤ vec_capacity level → HasRoom levels (total / GROUP)
    → HasRoom (level ∷ levels) total
unfolding HasRoom
joined_room level levels total room rooms = (room, rooms)

-- the room of the first level and of the others
pub room_of : (above : List (Vec (List ℕ) Global)) (level : Vec (List ℕ) Global) (levels : List (Vec (List ℕ) Global)) (total : ℕ) → above ≡ level ∷ levels → HasRoom above total
    → (total / GROUP ≤ vec_capacity level) × HasRoom levels (total / GROUP)
unfolding HasRoom
room_of above level levels total split room = there (subst (λ z. HasRoom z total) split room)
  where
    there : HasRoom (level ∷ levels) total → (total / GROUP ≤ vec_capacity level) × HasRoom levels (total / GROUP)
    there room = room

-- ---- what a push does

pub pushed_items : {E : Type 0} (r : Result (Unit {0}) E) (old : List (List ℕ)) (hash : List ℕ) (new : List (List ℕ)) → is_ok r ≡ true → new ≡ (if is_ok r then old ++ hash ∷ [] else old)
    → new ≡ old ++ hash ∷ []
pushed_items r old hash new ok is = is ∙ ap (λ b. if b then old ++ hash ∷ [] else old) ok

-- how many nodes a level has after its group was closed
pub length_after : (old below : List (List ℕ)) (hash : List ℕ) (new : List (List ℕ)) → 1 ≤ length below → length below % GROUP ≡ 0
    → old ≡ whole_roots GROUP (take (length below - 1) below) → new ≡ old ++ hash ∷ [] → length new ≡ length below / GROUP
length_after old below hash new some closed is pushed =
    omega (
      arith,
      some,
      closed,
      ap length pushed,
      length-append old (hash ∷ []),
      ap length is,
      length-run_roots GROUP (length (take (length below - 1) below) / GROUP) (take (length below - 1) below),
      length-take-le (length below - 1) below (omega arith),
    )

pub before_pushed : (old : List (List ℕ)) (hash : List ℕ) (new : List (List ℕ)) → new ≡ old ++ hash ∷ [] → old ≡ take (length new - 1) new
before_pushed old hash new pushed =
    sym (ap (take (length new - 1)) pushed ∙ take_at old (hash ∷ []) (length new - 1) (omega (arith, ap length pushed, length-append old (hash ∷ []))))

-- ---- room for more

pub kept_same : (levels : List (Vec (List ℕ) Global)) → AreKept levels levels
unfolding AreKept
kept_same [] = tt
kept_same (level ∷ levels) = (refl, omega arith, kept_same levels)

pub joined_kept : (above : List (Vec (List ℕ) Global)) (old new : Vec (List ℕ) Global) (olds news : List (Vec (List ℕ) Global)) → above ≡ old ∷ olds → new.items ≡ old.items
    → vec_capacity old ≤ vec_capacity new → AreKept olds news → AreKept above (new ∷ news)
unfolding AreKept
joined_kept above old new olds news split items room kept = subst (λ z. AreKept z (new ∷ news)) (sym split) (items, room, kept)

-- without a level there is room for less than a group
pub enough : (levels : List (Vec (List ℕ) Global)) (total : ℕ) → length levels ≡ 0 → total < GROUP ^ (length levels + 1) → HasRoom levels total
unfolding HasRoom
enough [] total none few = few
enough (level ∷ levels) total none few = absurd (omega (arith, none))

-- ---- a whole tree's parts

-- levels without a node
pub empty_above : (levels : List (Vec (List ℕ) Global)) (below : List (List ℕ)) → below ≡ [] → All (λ level. level.items ≡ []) levels → AreAbove levels below
unfolding AreAbove run_roots
empty_above [] below none empty = omega (arith, ap length none)
empty_above (level ∷ levels) below none empty =
    let first : level.items ≡ [] = empty 0 level (omega arith) in
    (first ∙ sym (ap (whole_roots GROUP) none), empty_above levels level.items first (All-tail (λ (l : Vec (List ℕ) Global). l.items ≡ []) level levels empty))

pub empty_room : (levels : List (Vec (List ℕ) Global)) (total : ℕ) → total ≡ 0 → HasRoom levels total
unfolding HasRoom
empty_room [] total none = omega (arith, none)
empty_room (level ∷ levels) total none = (omega (arith, none), empty_room levels (total / GROUP) (omega (arith, none)))

-- no leaf makes no run
pub no_runs : (s : ℕ) → run_roots s 0 [] ≡ []
unfolding run_roots
no_runs s = refl

-- how many leaves are in the tail
pub tail_length : (leaves : List (List ℕ)) (tail : List (List ℕ)) → tail ≡ rest_of RUN leaves → length tail ≡ length leaves - RUN * (length leaves / RUN)
tail_length leaves tail is = ap length is ∙ length-drop (RUN * (length leaves / RUN)) leaves

-- a leaf more closes no run
pub leaf_in_tail : (leaves : List (List ℕ)) (leaf : List ℕ) (old new : List (List ℕ)) → old ≡ rest_of RUN leaves → new ≡ old ++ leaf ∷ [] → length new ≢ RUN
    → (new ≡ rest_of RUN (leaves ++ leaf ∷ [])) × (whole_roots RUN leaves ≡ whole_roots RUN (leaves ++ leaf ∷ []))
leaf_in_tail leaves leaf old new is pushed more =
    let n : ℕ = length leaves in
    let same : (n + 1) / RUN ≡ n / RUN = omega (arith, ap length pushed, length-append old (leaf ∷ []), tail_length leaves old is, more) in (
      pushed ∙ ap (λ z. z ++ leaf ∷ []) is ∙ sym (open_rest RUN (n / RUN) leaves leaf refl same (omega arith)),
      sym (open_run RUN (n / RUN) leaves leaf refl same (omega arith)),
    )

-- a leaf more closes a run
pub leaf_closes : (leaves : List (List ℕ)) (leaf : List ℕ) (old new runs : List (List ℕ)) → old ≡ rest_of RUN leaves → new ≡ old ++ leaf ∷ [] → length new ≡ RUN
    → runs ≡ whole_roots RUN leaves ++ root new ∷ [] → ([] ≡ rest_of RUN (leaves ++ leaf ∷ [])) × (runs ≡ whole_roots RUN (leaves ++ leaf ∷ []))
leaf_closes leaves leaf old new runs is pushed full made =
    let n : ℕ = length leaves in
    let counts = tail_length leaves old is in
    let more : (n + 1) / RUN ≡ suc (n / RUN) = omega (arith, ap length pushed, length-append old (leaf ∷ []), counts, full) in
    let whole : RUN * (n / RUN) + RUN ≡ n + 1 = omega (arith, ap length pushed, length-append old (leaf ∷ []), counts, full) in
    let own : new ≡ drop (n + 1 - RUN) (leaves ++ leaf ∷ []) =
    pushed ∙ ap (λ z. z ++ leaf ∷ []) is ∙ sym (drop-append-le (RUN * (n / RUN)) leaves (leaf ∷ []) (omega arith)) ∙ ap (λ k. drop k (leaves ++ leaf ∷ [])) (omega (arith, whole)) in (
      sym (closed_rest RUN (n / RUN) leaves leaf more whole),
      made ∙ ap (λ z. whole_roots RUN leaves ++ root z ∷ []) own ∙ sym (closed_run RUN (n / RUN) leaves leaf refl more whole (omega arith)),
    )

-- there is room for the root of a run that is closed
pub run_room : (leaves : List (List ℕ)) (total : ℕ) (leaf : List ℕ) (old new runs : List (List ℕ)) → length leaves < total → old ≡ rest_of RUN leaves → new ≡ old ++ leaf ∷ [] → length new ≡ RUN
    → runs ≡ whole_roots RUN leaves → length runs + 1 ≤ total / RUN
run_room leaves total leaf old new runs less is pushed full made =
    omega (
      arith,
      less,
      full,
      ap length pushed,
      length-append old (leaf ∷ []),
      tail_length leaves old is,
      ap length made,
      length-run_roots RUN (length leaves / RUN) leaves,
    )

-- a level's sum with the new leaf
pub one_more : (leaves : List (List ℕ)) (leaf : List ℕ) (total : ℕ) → length leaves < total → length (leaves ++ leaf ∷ []) ≤ total
one_more leaves leaf total less = omega (arith, less, length-append leaves (leaf ∷ []))

-- a slice of a whole list that is written back
pub written : {X : Type 0} (len : ℕ) (old new : List X) → len ≡ length old → length new ≡ length old → take len (new ++ drop (length new) old) ≡ new
written len old new is same =
    ap (λ z. take len (new ++ z)) (drop_all (length new) old (omega (arith, same))) ∙ ap (take len) (append-nil new) ∙ take_all len new (omega (arith, is, same))

-- the leaves of the runs and of the tail
pub leaves_counted : (leaves : List (List ℕ)) (total : ℕ) (p : Parts) → IsOf leaves total p → RUN * length p.runs.items + length p.tail.items ≡ length leaves
leaves_counted leaves total p is =
    omega (
      arith,
      tail_length leaves p.tail.items is.tail,
      ap length is.runs,
      length-run_roots RUN (length leaves / RUN) leaves,
    )

-- ---- the first nodes of a level

-- their whole runs are the first ones of the level
pub first_roots : (s q k : ℕ) (xs : List (List ℕ)) → k ≤ length xs → k / s ≡ q → s * q ≤ k → q ≤ length xs / s
    → take q (whole_roots s xs) ≡ whole_roots s (take k xs)
first_roots s q k xs fits whole inside few =
    take-run_roots s q (length xs / s) xs few
    ∙ sym (roots_of_prefix s q k xs inside)
    ∙ ap (λ n. run_roots s n (take k xs)) (sym (ap (λ n. n / s) (length-take-le k xs fits) ∙ whole))

pub begin_above : (above : List (Vec (List ℕ) Global)) (xs : List (List ℕ)) (k : ℕ) → k ≤ length xs → AreAbove above xs → BeginAbove above (take k xs)
unfolding AreAbove BeginAbove
begin_above [] xs k fits a = omega (arith, length-take-le k xs fits, a, fits)
begin_above (level ∷ levels) xs k fits a =
    let few : k / GROUP ≤ length level.items = omega (arith, fits, ap length a.0, length-run_roots GROUP (length xs / GROUP) xs) in
    subst (λ n. (n / GROUP ≤ length level.items) × (take (n / GROUP) level.items ≡ whole_roots GROUP (take k xs)) × BeginAbove levels (take (n / GROUP) level.items))
    (sym (length-take-le k xs fits))
    (few, ap (take (k / GROUP)) a.0 ∙ first_roots GROUP (k / GROUP) k xs fits refl (omega arith) (omega (arith, fits)), begin_above levels level.items (k / GROUP) few a.1)

-- what a tree keeps of the first leaves
pub record HasFirst (leaves : List (List ℕ)) (n : ℕ) (runs : List (List ℕ)) (above : List (Vec (List ℕ) Global)) : Type 0 where
  pub inside : n / RUN ≤ length runs
  pub roots : take (n / RUN) runs ≡ whole_roots RUN (take n leaves)
  pub begins : BeginAbove above (take (n / RUN) runs)

pub has_first : (leaves : List (List ℕ)) (total n : ℕ) (p : Parts) (runs : List (List ℕ)) (above : List (Vec (List ℕ) Global)) → IsOf leaves total p → n ≤ length leaves
    → runs ≡ p.runs.items → above ≡ p.above.items → HasFirst leaves n runs above
has_first leaves total n p runs above is fits same same-above =
    let few : n / RUN ≤ length p.runs.items = omega (arith, fits, ap length is.runs, length-run_roots RUN (length leaves / RUN) leaves) in
    rw (same, same-above) (record {
      inside = few;
      roots = ap (take (n / RUN)) is.runs ∙ first_roots RUN (n / RUN) n leaves fits refl (omega arith) (omega (arith, fits));
      begins = begin_above p.above.items p.runs.items (n / RUN) few is.above;
    })

-- what is left after their whole runs
pub cut_rest : (leaves cut : List (List ℕ)) (n : ℕ) → n ≤ length leaves → cut ≡ drop (RUN * (n / RUN)) (take n leaves) → cut ≡ rest_of RUN (take n leaves) ++ []
cut_rest leaves cut n fits is =
    is ∙ ap (λ k. drop (RUN * (k / RUN)) (take n leaves)) (sym (length-take-le n leaves fits)) ∙ sym (append-nil (rest_of RUN (take n leaves)))
