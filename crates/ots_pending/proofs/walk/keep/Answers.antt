use Rattle.ots_pending.proofs.Walking.{set_kept, none_kept}
use Rattle.ots_pending.proofs.walk.keep.Goals as goal

pub returns-then-depth-numbers : goal.returns-then-depth-numbers
returns-then-depth-numbers c = set_kept c.args.numbers.now c.args.depth c.args.number c.if-depth-numbers.true

pub returns-else-depth-numbers : goal.returns-else-depth-numbers
returns-else-depth-numbers c = none_kept c.args.numbers.now c.args.depth c.args.number c.if-depth-numbers.false
