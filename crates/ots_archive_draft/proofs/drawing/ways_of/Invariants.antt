use Rattle.std.proofs.Common.{◌≡◌, take}
use Rattle.ots_stamp.specs.Stamped.{leaves}
use Rattle.ots_archive_draft.proofs.drawing.ways_of.Given as goal

abbrev pub invariant-loop-target : goal.invariant-loop-target
invariant-loop-target l = l.leaves.items ≡ leaves (take l.target-index l.targets)
