use Rattle.std.proofs.Common.{rules, ◌∙◌, ◌≡◌, ◌-◌, ◌<◌, ℕ, suc, ap, arith, length, length-drop, length-take-le, take, drop, List, ◌+◌}
use Rattle.std.proofs.lemmas.List.{take_rest}
use Rattle.std.proofs.lemmas.Result.{IfOk-weaker, on_ok_weaker}
use Rattle.ots_merkle.specs.declared.branch.Side.TheVariants.{Left, Right}
use Rattle.ots_merkle.specs.CalendarTree.{path_within}
use Rattle.ots_merkle.specs.Extended.{step}
use Rattle.ots_merkle.proofs.PathLaws.{path_at_zero, skipped, right_fits}
use Rattle.ots_merkle.proofs.Extending.{nothing_added, same_added, recounted, both_parts, root_made, root_skipped, root_at_zero, left_part, right_part}
use Rattle.ots_merkle.proofs.ways.+extend_paths.Goals as goal

pub returns-then-height-eq0-clause-root : goal.returns-then-height-eq0-clause-root
returns-then-height-eq0-clause-root t c = root_at_zero c.args.height c.args.leaves.now c.if-height-eq0.true

pub returns-then-height-eq0-clause-paths : goal.returns-then-height-eq0-clause-paths
returns-then-height-eq0-clause-paths t c =
    nothing_added c.args.first (length c.args.leaves.now) _ c.args.paths.now (λ j. path_at_zero c.args.height c.args.leaves.now j c.if-height-eq0.true)

pub returns-then-leaves-half-clause-root : goal.returns-then-leaves-half-clause-root
returns-then-leaves-half-clause-root t c =
    IfOk-weaker c.extend_paths.result _ _
    (λ root e. e ∙ root_skipped c.args.height (c.args.height - 1) c.args.leaves.now (omega arith) (omega arith))
    c.extend_paths.ensures.root

pub returns-then-leaves-half-clause-paths : goal.returns-then-leaves-half-clause-paths
returns-then-leaves-half-clause-paths t c =
    on_ok_weaker c.extend_paths.result
    (λ e. same_added c.args.first (length c.args.leaves.now) _ _ c.args.paths.now c.extend_paths.new.paths
    (λ j. skipped c.args.height (c.args.height - 1) c.args.leaves.now j (omega arith) (omega arith)) e)
    c.extend_paths.ensures.paths

pub extend_paths-requires-3 : goal.extend_paths-requires-3
extend_paths-requires-3 t c =
    let half : ℕ = c.power_of_two-half.result in
    let few = right_fits c.args.height (c.args.height - 1) c.args.leaves.now half (omega arith) c.power_of_two-half.ensures c.requires.fits in
    let count = ap length (take_rest c.args.leaves.now half) ∙ length-drop half c.args.leaves.now in
    (search rules, (omega arith, (omega arith, (few, omega arith))))

pub returns-clause-root : goal.returns-clause-root
returns-clause-root t c =
    root_made c.args.height (c.args.height - 1) c.power_of_two-half.result c.args.leaves.now c.in_ok-left.left c.in_ok-right.right c.node.result
    (omega arith) c.power_of_two-half.ensures (omega arith) c.in_ok-left.ensures.root c.in_ok-right.ensures.root c.node.ensures

pub returns-clause-paths : goal.returns-clause-paths
returns-clause-paths t c =
    let half : ℕ = c.power_of_two-half.result in
    let m : ℕ = c.args.height - 1 in
    let leaves : List (List ℕ) = c.args.leaves.now in
    let others : ℕ = length leaves - half in
    let more : half < length leaves = omega arith in
    let up : c.args.height ≡ suc m = omega arith in
    both_parts c.args.first half others (length leaves)
    (λ j. path_within m (take half leaves) j) (λ j. path_within m (take others (drop half leaves)) j) (λ j. path_within c.args.height leaves j)
    (step Left c.in_ok-left.left) (step Right c.in_ok-right.right)
    c.args.paths.now c.extend_paths-2.new.paths c.extend_paths-3.new.paths c.extend_each.new.paths c.extend_each-2.new.paths
    (omega arith)
    (recounted c.args.first (length (take half leaves)) half _ _ _ (length-take-le half leaves (omega arith)) c.in_ok-left.ensures.paths)
    (recounted (c.args.first + half) (length (take others (drop half leaves))) others _ _ _ (ap length (take_rest leaves half) ∙ length-drop half leaves) c.in_ok-right.ensures.paths)
    c.in_ok-extend_each.ensures c.in_ok-extend_each-2.ensures
    (left_part c.args.height m half leaves c.in_ok-right.right up c.power_of_two-half.ensures more c.in_ok-right.ensures.root)
    (right_part c.args.height m half leaves c.in_ok-left.left up c.power_of_two-half.ensures more c.in_ok-left.ensures.root)
