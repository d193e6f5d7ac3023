use Rattle.ots_stamping.proofs.Drawn.{Drawn}
use Rattle.ots_stamping.proofs.drawing.draw_targets.Given as goal

-- The first digests have their nonces.
abbrev pub invariant-loop-digest : goal.invariant-loop-digest
invariant-loop-digest g l = Drawn g.N.Nonces.left g.N.Nonces.faults l.digests l.digest-index l.targets.items l.fn.nonces l.nonces
