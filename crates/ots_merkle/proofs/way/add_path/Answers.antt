use Rattle.std.proofs.Common.{◌∙◌, ◌++◌, ap, arith}
use Rattle.std.proofs.lemmas.Result.{on_ok_weaker}
use Rattle.ots_merkle.proofs.PathLaws.{path_at_height}
use Rattle.ots_merkle.proofs.way.add_path.Goals as goal

pub returns : goal.returns
returns c =
    on_ok_weaker c.add_path_within.result
    (λ e. e ∙ ap (λ z. c.args.ops.now ++ z) (path_at_height 32 c.args.leaves.now c.args.i (omega arith)))
    c.add_path_within.ensures
