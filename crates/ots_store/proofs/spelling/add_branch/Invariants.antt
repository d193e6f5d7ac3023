use Rattle.std.proofs.Common.{◌≡◌, ◌++◌, ◌∷◌, take, length}
use Rattle.std.specs.List.{flat_map, AllByRecursion}
use Rattle.ots_store.specs.Records.{step_bytes, HasHash}
use Rattle.ots_store.proofs.spelling.add_branch.Given as goal

abbrev pub invariant-loop-step : goal.invariant-loop-step
invariant-loop-step l = record {
  spelled : l.payload.items ≡ l.fn.payload.items ++ (length l.branch ∷ flat_map step_bytes (take l.step-index l.branch));
  hashes : AllByRecursion HasHash (take l.step-index l.branch);
}
