use Rattle.std.proofs.Common.{◌++◌, ◌-◌, ◌/◌, ◌∙◌, ap, arith, drop, length, List, take, ℕ}
use Rattle.std.proofs.lemmas.List.{length-drop, take-append-drop, take_all}
use Rattle.ots_bitcoin_rows.proofs.trees.grown.Goals as goal

-- The leaves of both halves, one after the other.
pub returns : goal.returns
returns c =
    let leaves = c.args.leaves.now in
    let half = length leaves / 2 in
    let others = drop half leaves in
    let left = length leaves - half in
    let all = take_all left others (omega (arith, length-drop half leaves)) in
    let grown = c.in_ok-grow.ensures ∙ ap (λ (none : List (List ℕ)). none ++ take half leaves) c.in_ok-tree.ensures in
    let first = c.reserve.ensures.leaves ∙ grown in
    c.in_ok-grow-2.ensures ∙ ap (λ (before : List (List ℕ)). before ++ take left others) first
    ∙ ap (λ (after : List (List ℕ)). take half leaves ++ after) all ∙ take-append-drop half leaves
