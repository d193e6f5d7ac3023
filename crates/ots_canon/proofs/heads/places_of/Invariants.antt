use Rattle.std.proofs.Common.{◌≡◌, take, map}
use Rattle.ots_canon.specs.Heads.{place_of}
use Rattle.ots_canon.proofs.heads.places_of.Given as goal

abbrev pub invariant-loop-item : goal.invariant-loop-item
invariant-loop-item l = l.places.items ≡ map place_of (take l.item-index l.items)
