use Rattle.std.proofs.Common.{◌≡◌, ◌-◌}
use Rattle.ots_block.specs.Reading.{many_at}
use Rattle.ots_block.specs.Ends.{laid_at}
use Rattle.ots_block.proofs.Loops.{with_prefix}
use Rattle.ots_block.proofs.transactions.read_transactions.Given as goal

abbrev pub invariant-loop : goal.invariant-loop
invariant-loop l = with_prefix l.all.items (many_at laid_at (l.count - l.counter) l.rest) ≡ many_at laid_at l.count l.bytes
