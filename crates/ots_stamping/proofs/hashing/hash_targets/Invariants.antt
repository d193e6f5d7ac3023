use Rattle.std.proofs.Common.{take}
use Rattle.ots_arguments.specs.Values.{texts}
use Rattle.ots_stamping.proofs.Hashed.{Hashes}
use Rattle.ots_stamping.proofs.hashing.hash_targets.Given as goal

-- The first names are hashed.
abbrev pub invariant-loop-name : goal.invariant-loop-name
invariant-loop-name g l = Hashes (texts (take l.name-index l.names)) (g.S.Shelf.told l.fn.shelf) (g.S.Shelf.told l.shelf) (g.S.Shelf.faults l.fn.shelf) (g.S.Shelf.faults l.shelf) l.digests.items
