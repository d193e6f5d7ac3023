use Rattle.std.proofs.Common.{take}
use Rattle.ots_archive_ask.proofs.Kept.{Gathers}
use Rattle.ots_archive_steps.specs.Entries.{entries_of}
use Rattle.ots_archive_ask.proofs.gathering.gather.Given as goal

-- The proofs up to here are tried.
abbrev pub invariant-loop-index : goal.invariant-loop-index
invariant-loop-index g l = Gathers l.fn.urls.items l.all (take l.index (entries_of l.entries)) (g.W.World.told l.fn.world) (g.W.World.told l.world) l.gathered
