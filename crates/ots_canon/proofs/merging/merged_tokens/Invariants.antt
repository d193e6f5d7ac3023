use Rattle.std.proofs.Common.{take}
use Rattle.ots_canon.specs.Places.{HasAt, Covers}
use Rattle.ots_canon.proofs.merging.merged_tokens.Given as goal

abbrev pub invariant-loop-root : goal.invariant-loop-root
invariant-loop-root l = Covers l.tokens (HasAt l.tokens) (take l.root-index l.roots) l.places.items
