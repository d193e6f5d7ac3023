use Rattle.std.proofs.Common.{◌≡◌, ◌++◌, take}
use Rattle.ots_ops.proofs.ops.Ops.extend.Given as goal

abbrev pub invariant-loop-op : goal.invariant-loop-op
invariant-loop-op l = l.self ≡ l.initial.self ++ take l.op-index l.ops
