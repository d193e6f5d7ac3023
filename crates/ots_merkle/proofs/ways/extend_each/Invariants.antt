use Rattle.ots_merkle.specs.Extended.{Extended, step}
use Rattle.ots_merkle.proofs.ways.extend_each.Given as goal

abbrev pub invariant-loop-j : goal.invariant-loop-j
invariant-loop-j l = Extended l.first l.j (λ _. step l.side l.other) l.initial.paths l.paths
