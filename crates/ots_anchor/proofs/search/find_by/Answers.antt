use Rattle.std.proofs.Common.{◌+◌, sym, subst, Option, ℕ}
use Rattle.ots_anchor.specs.Look.{IsPast}
use Rattle.ots_anchor.proofs.Looks.{past_more}
use Rattle.ots_anchor.proofs.search.find_by.Goals as goal

pub loop-transaction-preserved : goal.loop-transaction-preserved
loop-transaction-preserved c =
    let w = c.loop-transaction in
    subst (λ (l : Option ℕ). IsPast c.args.block.now c.args.finders.now (w.transaction + 1) l) (sym c.long_after-long.ensures)
    (past_more c.args.block.now c.args.finders.now w.transaction w.long c.in_ok-other.other c.in_default.not-Short w.invariant c.in_ok-other.ensures)
