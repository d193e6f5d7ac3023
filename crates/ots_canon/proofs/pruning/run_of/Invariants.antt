use Rattle.std.proofs.Common.{◌≡◌, take}
use Rattle.std.specs.List.{filter}
use Rattle.ots_canon.specs.Leading.{is_of_run}
use Rattle.ots_canon.proofs.pruning.run_of.Given as goal

abbrev pub invariant-loop-place : goal.invariant-loop-place
invariant-loop-place l = l.run.items ≡ filter (is_of_run l.tokens l.leads l.first) (take l.place-index l.items)
