use Rattle.std.proofs.Common.{◌≡◌, ◌≤◌, take, drop}
use Rattle.ots_ops.specs.Value.{value, value_refusal}
use Rattle.ots_verdicts.proofs.values.value.Given as goal

-- What is left makes of the value so far what all make of the message.
abbrev pub invariant-loop-op : goal.invariant-loop-op
invariant-loop-op l = record {
  within : l.filled ≤ 4096;
  value : value (drop l.op-index l.ops) (take l.filled l.buffer) ≡ value l.ops l.message;
  refusal : value_refusal (drop l.op-index l.ops) (take l.filled l.buffer) ≡ value_refusal l.ops l.message;
}
