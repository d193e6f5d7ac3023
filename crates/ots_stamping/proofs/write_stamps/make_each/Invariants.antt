use Rattle.ots_stamping.proofs.Acts.{MadeSoFar}
use Rattle.ots_stamping.proofs.write_stamps.make_each.Given as goal
use Rattle.ots_outputs.specs.Printed.{SinkStays}

-- The proofs of the first files were made.
abbrev pub invariant-loop-i : goal.invariant-loop-i
invariant-loop-i g l =
    MadeSoFar l.stamped l.i (g.S.Shelf.told l.fn.shelf) (g.S.Shelf.told l.shelf) (g.S.Shelf.faults l.fn.shelf) (g.S.Shelf.faults l.shelf) (g.K.Sink.taken l.fn.out) (g.K.Sink.taken l.out)
    × SinkStays g.K.Sink.faults g.K.Sink.same l.fn.out l.out
