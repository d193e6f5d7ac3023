-- Bytes in a room, and parts of them.
use Rattle.std.proofs.Common.{◌≡◌, ◌≤◌, ℕ, ◌+◌, ◌-◌, List, [], ◌++◌, length, take, drop, sym, ap, ◌∙◌, arith, length-take, length-drop}
use Rattle.std.proofs.lemmas.List.{take-take, drop-take, drop-drop}
use Rattle.std.proofs.Math.Seq.{take-add}

abbrev pub between : ℕ → ℕ → List ℕ → List ℕ
between from to room = take (to - from) (drop from room)

pub length_between : (from to : ℕ) (room : List ℕ) → to ≤ length room → length (between from to room) ≡ to - from
length_between from to room within = omega (arith, length-take (to - from) (drop from room), length-drop from room)

pub take_between : (from to n : ℕ) (room : List ℕ) → from + n ≤ to → take n (between from to room) ≡ between from (from + n) room
take_between from to n room within =
    let many : n ≡ (from + n) - from = omega arith in
    take-take n (to - from) (drop from room) (omega arith) ∙ ap (λ (z : ℕ). take z (drop from room)) many

pub drop_between : (from to n : ℕ) (room : List ℕ) → from + n ≤ to → drop n (between from to room) ≡ between (from + n) to room
drop_between from to n room within =
    let many : to - from ≡ n + (to - (from + n)) = omega arith in
    ap (λ (z : ℕ). drop n (take z (drop from room))) many ∙ drop-take n (to - (from + n)) (drop from room)
    ∙ ap (take (to - (from + n))) (drop-drop n from room)

-- Nothing between two places is nothing between them in any other room.
pub still_none : (from to : ℕ) (old new : List ℕ) → to ≤ length old → between from to old ≡ [] → between from to new ≡ []
still_none from to old new within none =
    let many : to - from ≡ 0 = sym (length_between from to old within) ∙ ap length none in
    ap (λ (z : ℕ). take z (drop from new)) many

-- the same bytes after others have changed
pub between_kept : (from to : ℕ) (old new : List ℕ) → from ≤ to → take to new ≡ take to old → between from to new ≡ between from to old
between_kept from to old new order same =
    let whole : from + (to - from) ≡ to = omega (arith, order) in
    sym (drop-take from (to - from) new) ∙ ap (drop from) (ap (λ (z : ℕ). take z new) whole ∙ same ∙ sym (ap (λ (z : ℕ). take z old) whole))
    ∙ drop-take from (to - from) old

-- a piece that came after what was there
pub between_more : (from to n : ℕ) (old new : List ℕ) → from ≤ to → take to new ≡ take to old
    → between from (to + n) new ≡ between from to old ++ take n (drop to new)
between_more from to n old new order same =
    let many : (to + n) - from ≡ (to - from) + n = omega (arith, order) in
    let whole : from + (to - from) ≡ to = omega (arith, order) in
    ap (λ (z : ℕ). take z (drop from new)) many ∙ take-add (to - from) n (drop from new)
    ∙ ap (λ (z : List ℕ). z ++ take n (drop (to - from) (drop from new))) (between_kept from to old new order same)
    ∙ ap (λ (z : List ℕ). between from to old ++ take n z) (drop-drop (to - from) from new ∙ ap (λ (z : ℕ). drop z new) whole)
