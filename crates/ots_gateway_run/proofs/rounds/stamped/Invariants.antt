use Rattle.std.proofs.Common.{◌≡◌, ◌≤◌, take}
use Rattle.ots_gateway_run.specs.Rounds.{stamped}
use Rattle.ots_gateway_run.proofs.rounds.stamped.Given as goal

abbrev pub invariant-loop-one : goal.invariant-loop-one
invariant-loop-one l = record {
  count : l.stamped ≡ stamped (take l.one-index l.served);
  few : l.stamped ≤ l.one-index;
}
