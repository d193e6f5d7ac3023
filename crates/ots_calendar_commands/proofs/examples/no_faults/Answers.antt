use Rattle.std.proofs.Common.{ap, arith}
use Rattle.ots_outside.specs.Shelf.{ShelfFaults}
use Rattle.ots_calendar_commands.proofs.examples.no_faults.Goals as goal

pub returns : goal.returns
returns g c = λ o shelf disk sink. record {
  opening = λ rose. omega (arith, rose, ap (λ (z : ShelfFaults). z.opening) shelf);
  reading = λ rose. omega (arith, rose, ap (λ (z : ShelfFaults). z.reading) shelf);
  disk = λ rose. omega (arith, rose, disk);
  sink = λ rose. omega (arith, rose, sink);
}
