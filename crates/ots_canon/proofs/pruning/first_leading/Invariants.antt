use Rattle.std.proofs.Common.{take}
use Rattle.ots_canon.specs.Leading.{IsFirstMarked}
use Rattle.ots_canon.proofs.pruning.first_leading.Given as goal

abbrev pub invariant-loop-place : goal.invariant-loop-place
invariant-loop-place l = IsFirstMarked l.tokens l.leads (take l.place-index l.items) l.first
