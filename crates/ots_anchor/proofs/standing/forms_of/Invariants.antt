use Rattle.std.proofs.Common.{◌≡◌, take}
use Rattle.std.specs.List.{concat}
use Rattle.ots_block.specs.Block.{stripped_forms}
use Rattle.ots_anchor.proofs.standing.forms_of.Given as goal

abbrev pub invariant-loop-transaction : goal.invariant-loop-transaction
invariant-loop-transaction l = l.forms.items ≡ concat (take l.transaction (stripped_forms l.block))
