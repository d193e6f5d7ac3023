-- What the row of level hashes stands for.
use Rattle.std.proofs.Common.{◌≡◌, ℕ, zero, suc, ◌+◌, ◌^◌, ◌<◌, ◌≤◌, List, [], ◌∷◌, ◌++◌, length, take, drop, get_or, slice_set, Bool, true, false, if◌then◌else◌, Option, Some, None, refl, sym, ap, ◌∙◌, subst, arith, length-append, length-take-le, append-nil, append_assoc, add-one, replicate}
use Rattle.std.specs.Option.{is_none}
use Rattle.std.specs.List.{list_any}
use Rattle.std.proofs.lemmas.List.{set_split, drop_more, take_more, take_all, take_more_set, drop-set-lt}
use Rattle.std.proofs.lemmas.Nat.{pow_pos}
use Rattle.std.proofs.Math.Nat.{pow-suc}
use Rattle.ots_merkle.specs.Hashes.{node}
use Rattle.ots_merkle.specs.CalendarTree.{root, root_if_any}
use Rattle.ots_merkle.specs.Row.{added, with_room, all_added, folded}
use Rattle.ots_merkle.proofs.Trees.{root_of_one, root_of_two}

-- The row stands for these leaves from the place h on: a hash is the root of the last 2 ^ h leaves, and the rest of
-- the row stands for those before them.
abbrev pub Stands : ℕ → List (Option (List ℕ)) → List (List ℕ) → Type 0
Stands h [] leaves = leaves ≡ []
Stands h (None ∷ row) leaves = Stands (suc h) row leaves
Stands h (Some hash ∷ row) leaves =
    (before : List (List ℕ)) × (after : List (List ℕ)) × (leaves ≡ before ++ after) × (length after ≡ 2 ^ h) × (hash ≡ root after)
    × Stands (suc h) row before

-- a row without a hash stands for no leaf
pub empty_stands : (h n : ℕ) → Stands h (replicate n None) []
empty_stands h zero = refl
empty_stands h (suc n) = empty_stands (suc h) n

-- the root of two neighbours
joined : (h : ℕ) (left right : List (List ℕ)) (l r : List ℕ) → length left ≡ 2 ^ h → 0 < length right → length right ≤ 2 ^ h
    → l ≡ root left → r ≡ root right → node l r ≡ root (left ++ right)
joined h left right l r full some few el er = (λ i. node (el i) (er i)) ∙ sym (root_of_two h left right full some few)

regrouped : (leaves before after more : List (List ℕ)) → leaves ≡ before ++ after → before ++ (after ++ more) ≡ leaves ++ more
regrouped leaves before after more e = sym (append_assoc before after more) ∙ ap (λ l. l ++ more) (sym e)

-- the root of 2 ^ h leaves is added at the place h
pub add_stands : (h : ℕ) (row : List (Option (List ℕ))) (leaves after : List (List ℕ)) (hash : List ℕ)
    → Stands h row leaves → hash ≡ root after → length after ≡ 2 ^ h → Stands h (added row hash) (leaves ++ after)
add_stands h [] leaves after hash s is count = ([], after, ap (λ l. l ++ after) s, count, is, refl)
add_stands h (None ∷ row) leaves after hash s is count = (leaves, after, refl, count, is, s)
add_stands h (Some before ∷ row) leaves after hash s is count =
    let one : node before hash ≡ root (s.1 ++ after) =
    joined h s.1 after before hash s.3 (omega (arith, pow_pos h)) (omega arith) s.4 is in
    let two : length (s.1 ++ after) ≡ 2 ^ suc h = omega (arith, length-append s.1 after, s.3, pow-suc 2 h) in
    subst (λ (l : List (List ℕ)). Stands (suc h) (added row (node before hash)) l) (regrouped leaves s.0 s.1 after s.2)
    (add_stands (suc h) row s.0 (s.1 ++ after) (node before hash) s.5 one two)

-- leaves added one after another
pub all_stand : (row : List (Option (List ℕ))) (leaves more : List (List ℕ)) → Stands 0 row leaves → Stands 0 (all_added row more) (leaves ++ more)
all_stand row leaves [] s = rw (append-nil leaves) s
all_stand row leaves (leaf ∷ more) s =
    subst (λ (l : List (List ℕ)). Stands 0 (all_added (added row leaf) more) l) (append_assoc leaves (leaf ∷ []) more)
    (all_stand (added row leaf) (leaves ++ leaf ∷ []) more (add_stands 0 row leaves (leaf ∷ []) leaf s (sym (root_of_one leaf)) refl))

pub one_more : (row : List (Option (List ℕ))) (leaves : List (List ℕ)) (leaf : List ℕ) → all_added row (leaves ++ leaf ∷ []) ≡ added (all_added row leaves) leaf
one_more row [] leaf = refl
one_more row (first ∷ leaves) leaf = one_more (added row first) leaves leaf

-- the fold over a row with some leaves it
fold_some : (h : ℕ) (row : List (Option (List ℕ))) (leaves after : List (List ℕ)) (hash : List ℕ)
    → Stands h row leaves → hash ≡ root after → 0 < length after → length after ≤ 2 ^ h → folded row (Some hash) ≡ Some (root (leaves ++ after))
fold_some h [] leaves after hash s is some few = (λ i. Some (is i)) ∙ ap (λ l. Some (root (l ++ after))) (sym s)
fold_some h (None ∷ row) leaves after hash s is some few = fold_some (suc h) row leaves after hash s is some (omega (arith, pow-suc 2 h))
fold_some h (Some before ∷ row) leaves after hash s is some few =
    fold_some (suc h) row s.0 (s.1 ++ after) (node before hash) s.5 (joined h s.1 after before hash s.3 some few s.4 is)
    (omega (arith, length-append s.1 after)) (omega (arith, length-append s.1 after, s.3, pow-suc 2 h))
    ∙ ap (λ l. Some (root l)) (regrouped leaves s.0 s.1 after s.2)

some_root : (leaves : List (List ℕ)) → 0 < length leaves → root_if_any leaves ≡ Some (root leaves)
some_root [] some = absurd (omega arith)
some_root (leaf ∷ leaves) some = refl

pub fold_none : (h : ℕ) (row : List (Option (List ℕ))) (leaves : List (List ℕ)) → Stands h row leaves → folded row None ≡ root_if_any leaves
fold_none h [] leaves s = rw s refl
fold_none h (None ∷ row) leaves s = fold_none (suc h) row leaves s
fold_none h (Some before ∷ row) leaves s =
    let some : 0 < length s.1 = omega (arith, s.3, pow_pos h) in
    fold_some (suc h) row s.0 s.1 before s.5 s.4 some (omega (arith, s.3, pow-suc 2 h))
    ∙ ap (λ l. Some (root l)) (sym s.2)
    ∙ sym (some_root leaves (omega (arith, ap length s.2, length-append s.0 s.1)))

-- how many leaves a row can stand for
at_next : (h : ℕ) (before : Option (List ℕ)) (row : List (Option (List ℕ))) → 2 ^ (suc h + length row) ≡ 2 ^ (h + length (before ∷ row))
at_next h before row = ap (λ n. 2 ^ n) {x = suc h + length row} {y = h + suc (length row)} (omega arith)

pub fits_row : (h : ℕ) (row : List (Option (List ℕ))) (leaves : List (List ℕ)) → Stands h row leaves → length leaves + 2 ^ h ≤ 2 ^ (h + length row)
fits_row h [] leaves s = omega (arith, ap length s, ap (λ n. 2 ^ n) {x = h + 0} {y = h} (omega arith))
fits_row h (None ∷ row) leaves s = omega (arith, fits_row (suc h) row leaves s, at_next h None row, pow-suc 2 h)
fits_row h (Some before ∷ row) leaves s =
    omega (arith, fits_row (suc h) row s.0 s.5, at_next h (Some before) row, pow-suc 2 h, ap length s.2, length-append s.0 s.1, s.3)

pub fills_row : (h : ℕ) (row : List (Option (List ℕ))) (leaves : List (List ℕ)) → Stands h row leaves → list_any is_none row ≡ false
    → length leaves + 2 ^ h ≡ 2 ^ (h + length row)
fills_row h [] leaves s full = omega (arith, ap length s, ap (λ n. 2 ^ n) {x = h + 0} {y = h} (omega arith))
fills_row h (None ∷ row) leaves s full = cc
fills_row h (Some before ∷ row) leaves s full =
    omega (arith, fills_row (suc h) row s.0 s.5 full, at_next h (Some before) row, pow-suc 2 h, ap length s.2, length-append s.0 s.1, s.3)

-- a row with a free place, and one without
pub added_full : (row : List (Option (List ℕ))) (hash : List ℕ) → list_any is_none row ≡ false → added (row ++ None ∷ []) hash ≡ added row hash
added_full [] hash full = refl
added_full (None ∷ row) hash full = cc
added_full (Some before ∷ row) hash full = ap (λ r. None ∷ r) (added_full row (node before hash) full)

pub room_after : (row : List (Option (List ℕ))) → list_any is_none (row ++ None ∷ []) ≡ true
room_after [] = refl
room_after (None ∷ row) = refl
room_after (Some before ∷ row) = room_after row

room_or_not : (row : List (Option (List ℕ))) (leaves : List (List ℕ)) (room : Bool) → list_any is_none row ≡ room
    → Stands 0 row leaves → length leaves + 1 < 2 ^ length row → list_any is_none row ≡ true
room_or_not row leaves true e s few = e
room_or_not row leaves false e s few =
    absurd (omega (arith, fills_row 0 row leaves s e, ap (λ n. 2 ^ n) {x = 0 + length row} {y = length row} (omega arith)))

pub room_left : (row : List (Option (List ℕ))) (leaves : List (List ℕ)) → Stands 0 row leaves → length leaves + 1 < 2 ^ length row
    → list_any is_none row ≡ true
room_left row leaves s few = room_or_not row leaves (list_any is_none row) refl s few

-- leaves that were added to an empty row
pub stands_for : (n : ℕ) (leaves : List (List ℕ)) → Stands 0 (all_added (replicate n None) leaves) leaves
stands_for n leaves = all_stand (replicate n None) [] leaves (empty_stands 0 n)

-- the row of the leaves before i has room for the next
pub room_yet : (row : List (Option (List ℕ))) (leaves : List (List ℕ)) (i : ℕ) → row ≡ all_added (replicate 32 None) (take i leaves) → length row ≡ 32
    → i < length leaves → length leaves < 2 ^ 32 → list_any is_none row ≡ true
room_yet row leaves i e long within few =
    let s : Stands 0 row (take i leaves) = subst (λ (r : List (Option (List ℕ))). Stands 0 r (take i leaves)) (sym e) (stands_for 32 (take i leaves)) in
    let count : length (take i leaves) ≡ i = length-take-le i leaves (omega arith) in
    room_left row (take i leaves) s (rw long (omega arith))

-- and then it is that of one more
pub row_further : (row next : List (Option (List ℕ))) (n : ℕ) (leaves : List (List ℕ)) (i : ℕ) (leaf d : List ℕ)
    → row ≡ all_added (replicate n None) (take i leaves) → i < length leaves → leaf ≡ get_or leaves i d → next ≡ added row leaf
    → next ≡ all_added (replicate n None) (take (i + 1) leaves)
row_further row next n leaves i leaf d e within is made =
    rw (take_more leaves i d within, one_more (replicate n None) (take i leaves) (get_or leaves i d), ← e, ← is) made

pub root_of_row : (row : List (Option (List ℕ))) (n : ℕ) (leaves : List (List ℕ)) → row ≡ all_added (replicate n None) leaves
    → folded row None ≡ root_if_any leaves
root_of_row row n leaves e = ap (λ r. folded r None) e ∙ fold_none 0 (all_added (replicate n None) leaves) leaves (stands_for n leaves)

pub root_of_all : (row : List (Option (List ℕ))) (n : ℕ) (leaves : List (List ℕ)) (i : ℕ) → row ≡ all_added (replicate n None) (take i leaves)
    → length leaves ≤ i → 1 ≤ length leaves → folded row None ≡ Some (root leaves)
root_of_all row n leaves i e past some =
    root_of_row row n leaves (e ∙ ap (all_added (replicate n None)) (take_all i leaves past)) ∙ some_root leaves some

-- room is made
room_made_by : (row : List (Option (List ℕ))) (room : Bool) → list_any is_none row ≡ room
    → list_any is_none (if room then row else row ++ None ∷ []) ≡ true
room_made_by row true e = e
room_made_by row false e = room_after row

pub room_made : (row : List (Option (List ℕ))) → list_any is_none (with_room row) ≡ true
room_made row = room_made_by row (list_any is_none row) refl

same_sum_by : (row : List (Option (List ℕ))) (hash : List ℕ) (room : Bool) → list_any is_none row ≡ room
    → added (if room then row else row ++ None ∷ []) hash ≡ added row hash
same_sum_by row hash true e = refl
same_sum_by row hash false e = added_full row hash e

pub same_sum : (row : List (Option (List ℕ))) (hash : List ℕ) → added (with_room row) hash ≡ added row hash
same_sum row hash = same_sum_by row hash (list_any is_none row) refl

-- steps of the code
at_place : (row : List (Option (List ℕ))) (i : ℕ) (level d : Option (List ℕ)) → i < length row → level ≡ get_or row i d → drop i row ≡ level ∷ drop (i + 1) row
at_place row i level d within is = drop_more row i d within ∙ (λ j. sym is j ∷ drop (i + 1) row)

pub free_place : (row : List (Option (List ℕ))) (i : ℕ) (hash : List ℕ) (d : Option (List ℕ)) → i < length row → None ≡ get_or row i d
    → slice_set row i (Some hash) ≡ take i row ++ added (drop i row) hash
free_place row i hash d within is = rw (at_place row i None d within is, set_split row i (Some hash) within, add-one) refl

pub taken_place : (row : List (Option (List ℕ))) (i : ℕ) (before hash : List ℕ) (d : Option (List ℕ)) → i < length row → Some before ≡ get_or row i d
    → take i row ++ added (drop i row) hash ≡ take (i + 1) (slice_set row i None) ++ added (drop (i + 1) (slice_set row i None)) (node before hash)
taken_place row i before hash d within is =
    rw (at_place row i (Some before) d within is, take_more_set row i None within, drop-set-lt (i + 1) row i None (omega arith))
    (sym (append_assoc (take i row) (None ∷ []) (added (drop (i + 1) row) (node before hash))))

pub room_further : (row : List (Option (List ℕ))) (i : ℕ) (before : List ℕ) (d : Option (List ℕ)) → i < length row → Some before ≡ get_or row i d
    → list_any is_none (drop i row) ≡ list_any is_none (drop (i + 1) (slice_set row i None))
room_further row i before d within is =
    rw (at_place row i (Some before) d within is, drop-set-lt (i + 1) row i None (omega arith)) refl
