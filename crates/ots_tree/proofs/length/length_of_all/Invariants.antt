use Rattle.std.proofs.Common.{◌≡◌, ◌-◌, ◌^◌, length, min, take}
use Rattle.ots_tree.specs.Wire.{spelled}
use Rattle.ots_tree.proofs.length.length_of_all.Given as goal

abbrev pub invariant-loop-token : goal.invariant-loop-token
invariant-loop-token l = l.length ≡ min (length (spelled (take l.token-index l.tokens))) (2 ^ 64 - 1)
