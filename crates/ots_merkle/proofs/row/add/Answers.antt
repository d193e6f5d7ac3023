use Rattle.std.proofs.Common.{sym, ◌∙◌, arith}
use Rattle.ots_merkle.proofs.Rows.{free_place}
use Rattle.ots_merkle.proofs.row.add.Goals as goal

pub returns-in-None : goal.returns-in-None
returns-in-None c =
    free_place c.loop-place.row c.loop-place.place c.loop-place.carried _ (omega arith) (sym c.in-None.is) ∙ sym c.loop-place.invariant.sum
