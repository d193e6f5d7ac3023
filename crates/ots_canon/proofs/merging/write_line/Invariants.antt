use Rattle.std.proofs.Common.{◌≡◌, ◌-◌, ◌++◌, take, drop}
use Rattle.ots_canon.proofs.merging.write_line.Given as goal

abbrev pub invariant-loop-at : goal.invariant-loop-at
invariant-loop-at l = l.written.items ≡ l.initial.written.items ++ take (l.at - l.from) (drop l.from l.tokens)
