use Rattle.std.proofs.Common.{rules, ◌∙◌, ◌-◌, ◌++◌, sym, ap, arith, length, length-drop, take, drop, ℕ, append-nil}
use Rattle.std.proofs.lemmas.List.{take_rest}
use Rattle.std.proofs.lemmas.Result.{on_ok_weaker}
use Rattle.ots_merkle.proofs.PathLaws.{path_at_zero, skipped, left_added, right_added, right_fits}
use Rattle.ots_merkle.proofs.way.+add_path_within.Goals as goal

pub returns-then-height-eq0 : goal.returns-then-height-eq0
returns-then-height-eq0 t c =
    sym (append-nil c.args.ops.now) ∙ ap (λ z. c.args.ops.now ++ z) (sym (path_at_zero c.args.height c.args.leaves.now c.args.i c.if-height-eq0.true))

pub returns-then-leaves-half : goal.returns-then-leaves-half
returns-then-leaves-half t c =
    on_ok_weaker c.add_path_within.result
    (λ e. e ∙ ap (λ z. c.args.ops.now ++ z) (skipped c.args.height (c.args.height - 1) c.args.leaves.now c.args.i (omega arith) (omega arith)))
    c.add_path_within.ensures

pub add_path_within-requires-else-i-half : goal.add_path_within-requires-else-i-half
add_path_within-requires-else-i-half t c =
    let half : ℕ = c.power_of_two-half.result in
    let few = right_fits c.args.height (c.args.height - 1) c.args.leaves.now half (omega arith) c.power_of_two-half.ensures c.requires.fits in
    let count = ap length (take_rest c.args.leaves.now half) ∙ length-drop half c.args.leaves.now in
    (search rules, (omega arith, (few, (omega arith, omega arith))))

pub returns-in_ok-copy_of : goal.returns-in_ok-copy_of
returns-in_ok-copy_of t c =
    let half : ℕ = c.power_of_two-half.result in
    on_ok_weaker c.add_step.result
    (λ e. left_added c.args.height (c.args.height - 1) c.args.leaves.now _ _ c.args.i c.args.ops.now c.add_path_within-then-i-half.new.ops _ c.in_ok-copy_of.field-0
    (omega arith) c.requires.fits (omega arith) (omega arith)
    (ap (λ k. take k c.args.leaves.now) c.power_of_two-half.ensures)
    (take_rest c.args.leaves.now half ∙ ap (λ k. drop k c.args.leaves.now) c.power_of_two-half.ensures)
    c.in_ok-add_path_within.ensures (c.in_ok-copy_of.ensures ∙ c.root.ensures) e)
    c.add_step.ensures

pub returns-in_ok-copy_of-2 : goal.returns-in_ok-copy_of-2
returns-in_ok-copy_of-2 t c =
    let half : ℕ = c.power_of_two-half.result in
    on_ok_weaker c.add_step-else-i-half.result
    (λ e. right_added c.args.height (c.args.height - 1) c.args.leaves.now _ _ c.args.i (c.args.i - half) c.args.ops.now c.add_path_within-else-i-half.new.ops _ c.in_ok-copy_of-2.field-0
    (omega arith) (omega arith) (omega arith) (ap (λ k. c.args.i - k) c.power_of_two-half.ensures)
    (ap (λ k. take k c.args.leaves.now) c.power_of_two-half.ensures)
    (take_rest c.args.leaves.now half ∙ ap (λ k. drop k c.args.leaves.now) c.power_of_two-half.ensures)
    c.in_ok-add_path_within-2.ensures (c.in_ok-copy_of-2.ensures ∙ c.root-else-i-half.ensures) e)
    c.add_step-else-i-half.ensures
