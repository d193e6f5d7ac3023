use Rattle.std.proofs.Common.{◌≡◌, replicate, []}
use Rattle.ots_merkle.proofs.ways.no_steps.Given as goal

abbrev pub invariant-loop : goal.invariant-loop
invariant-loop l = l.all.items ≡ replicate l.counter []
