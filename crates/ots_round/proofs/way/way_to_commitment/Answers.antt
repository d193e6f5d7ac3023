use Rattle.std.proofs.Common.{◌++◌, ◌∙◌, List, ap, arith}
use Rattle.ots_ops.specs.declared.op.Op.{Op}
use Rattle.ots_round.proofs.Blocks.{rest_of}
use Rattle.ots_round.proofs.Leading.{way_made}
use Rattle.ots_round.proofs.way.way_to_commitment.Goals as goal

pub returns : goal.returns
returns c =
    way_made c.args.nonce.now c.args.commitment.now c.in_ok-copy_of.field-0 c.in_ok-copy_of-2.field-0 c.in_ok-copy_of-3.field-0 c.args.path.now
    c.new-ops.result c.push.new.self c.push-2.new.self c.extend.new.self c.push-3.new.self c.push-4.new.self
    c.new-ops.ensures c.in_ok-copy_of.ensures c.in_ok-push.ensures c.in_ok-push-2.ensures (c.in_ok-extend.ensures ∙ ap (λ (z : List Op). c.push-2.new.self ++ z) c.items.ensures)
    c.in_ok-copy_of-2.ensures c.in_ok-push-3.ensures (c.in_ok-copy_of-3.ensures ∙ rest_of c.args.commitment.now (omega arith)) c.in_ok-push-4.ensures
