use Rattle.std.proofs.Common.{◌≡◌, ◌-◌}
use Rattle.ots_block.specs.Ends.{many_end, input_end}
use Rattle.ots_block.proofs.fields.skip_inputs.Given as goal

abbrev pub invariant-loop : goal.invariant-loop
invariant-loop l = many_end input_end (l.count - l.counter) l.rest ≡ many_end input_end l.count l.bytes
