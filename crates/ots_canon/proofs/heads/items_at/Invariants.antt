use Rattle.std.proofs.Common.{take}
use Rattle.ots_canon.specs.Heads.{AreHeads}
use Rattle.ots_canon.proofs.heads.items_at.Given as goal

abbrev pub invariant-loop-place : goal.invariant-loop-place
invariant-loop-place l = AreHeads l.tokens (take l.place-index l.places) l.items.items
