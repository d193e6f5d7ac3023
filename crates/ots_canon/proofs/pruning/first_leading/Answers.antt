use Rattle.std.proofs.lemmas.List.{take_all}
use Rattle.ots_canon.proofs.Pruned.{first_marked, first_unmarked}
use Rattle.ots_canon.proofs.pruning.first_leading.Goals as goal
use Rattle.ots_canon.proofs.pruning.first_leading.Goals.{then-leads-place, else-leads-place}

pub loop-place-preserved : goal.loop-place-preserved
loop-place-preserved c = elim c.if-leads-place.branch [
  | then-leads-place w ↦
      rw (w.first-is, w.first_of.ensures)
      (first_marked c.args.tokens.now c.args.leads.now c.args.items.now c.loop-place.place-index c.loop-place.first c.loop-place-test.true w.if-leads-place.true c.loop-place.invariant)
  | else-leads-place w ↦
      rw w.first-is
      (first_unmarked c.args.tokens.now c.args.leads.now c.args.items.now c.loop-place.place-index c.loop-place.first c.loop-place-test.true w.if-leads-place.false c.loop-place.invariant)
]

pub returns : goal.returns
returns c = rw (take_all c.loop-place.place-index c.args.items.now c.loop-place-test.false) at c.loop-place.invariant
