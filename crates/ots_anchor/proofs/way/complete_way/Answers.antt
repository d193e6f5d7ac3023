use Rattle.std.proofs.Common.{◌++◌, ◌∷◌, [], ap, ◌∙◌, List}
use Rattle.ots_ops.specs.declared.op.Op.{Op}
use Rattle.ots_ops.specs.declared.op.Op.TheVariants.{Sha256}
use Rattle.ots_anchor.proofs.Paths.{chained}
use Rattle.ots_anchor.proofs.way.complete_way.Goals as goal

pub returns-clause-path : goal.returns-clause-path
returns-clause-path c =
    chained c.args.prefix.now c.args.suffix.now c.args.branch.now c.args.way.now
    c.push.new.self c.extend.new.self c.add_before.new.ops c.add_after.new.ops c.add_twice.new.ops c.add_branch.new.ops
    (c.in_ok-push.ensures ∙ ap (λ (z : List Op). z ++ Sha256 ∷ []) c.new-ops.ensures)
    c.in_ok-extend.ensures c.in_ok-add_before.ensures c.in_ok-add_after.ensures c.in_ok-add_twice.ensures c.in_ok-add_branch.ensures.ops
