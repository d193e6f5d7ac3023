-- Each try that was cut short took nothing.
use Rattle.std.specs.Io.KnownBytes.{Keeps}
use Rattle.ots_real.proofs.counted.write_counted.Given as goal

abbrev pub invariant-loop : goal.invariant-loop
invariant-loop g l = Keeps (g.W.Write.contents l.initial.writer) (g.W.Write.contents l.writer)
