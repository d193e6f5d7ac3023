use Rattle.std.proofs.Common.{take}
use Rattle.ots_anchor.specs.Standing.{IsStanding}
use Rattle.ots_anchor.proofs.standing.standing_in.Given as goal

abbrev pub invariant-loop-finder : goal.invariant-loop-finder
invariant-loop-finder l = IsStanding l.forms.items (take l.finder-index l.finders) l.standing.items
