use Rattle.std.proofs.Common.{ℕ, ◌<◌}
use Rattle.ots_arguments.proofs.NameLemmas.{is_named}
use Rattle.ots_arguments.proofs.names.some_names.Given as goal

-- None of the first ones is empty.
abbrev pub invariant-loop-name : goal.invariant-loop-name
invariant-loop-name l = (k : ℕ) → k < l.name-index → is_named l.names k
