use Rattle.std.proofs.Common.{◌≡◌, ◌-◌}
use Rattle.ots_block.specs.Ends.{many_end, sized_end}
use Rattle.ots_block.proofs.fields.skip_items.Given as goal

abbrev pub invariant-loop : goal.invariant-loop
invariant-loop l = many_end sized_end (l.count - l.counter) l.rest ≡ many_end sized_end l.count l.bytes
