use Rattle.std.proofs.Common.{arith, ap}
use Rattle.ots_pending.specs.declared.kept_pair.KeptPair.{KeptPair}
use Rattle.ots_pending.proofs.Raising.{raised_set, raised_same, get_any}
use Rattle.ots_pending.proofs.adding.raise.Goals as goal

pub returns-then-asked-place : goal.returns-then-asked-place
returns-then-asked-place c =
    let less = c.if-asked-place.true in
    let same = ap (λ (z : KeptPair). z.depth) (get_any c.args.asked.now c.args.place c.index-asked-place.result c.index-asked-place-then-asked-place.result c.requires) in
    raised_set c.args.asked.now c.args.place c.args.depth c.index-asked-place-then-asked-place.result c.requires (omega arith)

pub returns-else-asked-place : goal.returns-else-asked-place
returns-else-asked-place c =
    let less = c.if-asked-place.false in
    raised_same c.args.asked.now c.args.place c.args.depth c.index-asked-place.result c.requires (omega arith)
