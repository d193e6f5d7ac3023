use Rattle.std.proofs.Common.{◌∙◌, ◌++◌, ap, arith, length, [], get_or}
use Rattle.ots_ops.specs.Value.{value}
use Rattle.ots_merkle.specs.CalendarTree.{path}
use Rattle.ots_merkle.proofs.PathLaws.{path_leads, path_short, are_hashes}
use Rattle.ots_merkle.proofs.way.path.Goals as goal

pub returns-clause-leads : goal.returns-clause-leads
returns-clause-leads c =
    ap (λ p. value p (get_or c.args.leaves.now c.args.i [])) (c.in_ok-add_path.ensures ∙ ap (λ z. z ++ path c.args.leaves.now c.args.i) c.new-ops.ensures)
    ∙ path_leads c.args.leaves.now c.args.i (are_hashes c.args.leaves.now c.told-leaves) c.requires.is_leaf

pub returns-clause-short : goal.returns-clause-short
returns-clause-short c =
    omega (arith, ap length (c.in_ok-add_path.ensures ∙ ap (λ z. z ++ path c.args.leaves.now c.args.i) c.new-ops.ensures), path_short 32 c.args.leaves.now c.args.i (omega arith))
