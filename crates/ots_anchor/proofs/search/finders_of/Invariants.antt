use Rattle.std.proofs.Common.{◌≡◌, take}
use Rattle.ots_anchor.proofs.search.finders_of.Given as goal

abbrev pub invariant-loop-root : goal.invariant-loop-root
invariant-loop-root l = l.finders.items ≡ take l.root-index l.roots
