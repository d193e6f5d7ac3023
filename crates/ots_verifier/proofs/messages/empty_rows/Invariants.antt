use Rattle.std.proofs.Common.{◌≡◌, length, vec_capacity}
use Rattle.ots_verifier.specs.declared.messages.TheConstants.{ROWS}
use Rattle.ots_verifier.proofs.messages.empty_rows.Given as goal

abbrev pub invariant-loop : goal.invariant-loop
invariant-loop l = (length l.rows.items ≡ l.counter) × (vec_capacity l.rows ≡ ROWS)
