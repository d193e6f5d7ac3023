use Rattle.std.proofs.Common.{◌*◌, ◌/◌, ◌-◌, ◌∙◌, arith, drop, length, sym}
use Rattle.std.proofs.lemmas.List.{length-drop, take_all}
use Rattle.ots_growing_tree.specs.declared.growing.TheConstants.{RUN}
use Rattle.ots_bitcoin_rows.proofs.trees.run_of.Goals as goal

-- A run that is cut has all that is left.
pub returns-then-rest-lt-RUN : goal.returns-then-rest-lt-RUN
returns-then-rest-lt-RUN c =
    let leaves = c.args.leaves.now in
    let start = RUN * (c.args.i / RUN) in
    let left = length-drop start leaves in
    let few = c.if-rest-lt-RUN.true in
    let all = take_all (length leaves - start) (drop start leaves) (omega (arith, left)) in
    all ∙ sym (take_all RUN (drop start leaves) (omega (arith, left, few)))
