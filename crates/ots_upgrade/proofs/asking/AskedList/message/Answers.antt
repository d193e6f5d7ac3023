use Rattle.std.proofs.Common.{◌∙◌, ap, arith}
use Rattle.ots_upgrade.proofs.AskedWith.{asked_count, asked_there}
use Rattle.ots_upgrade.specs.declared.asking.AskedAt.{AskedAt}
use Rattle.ots_upgrade.proofs.asking.AskedList.message.Goals as goal

pub message-requires : goal.message-requires
message-requires c = let count = asked_count _ _ _ c.self.view_is c.self.invariant in omega arith

pub returns : goal.returns
returns c = λ a at.
    let pair = asked_there _ _ _ c.self.view_is c.args.i a at in
    c.message.ensures pair.pair pair.pair_there ∙ ap (λ (z : AskedAt). z.message) pair.is
