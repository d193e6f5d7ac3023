use Rattle.std.proofs.Common.{take}
use Rattle.ots_pending.specs.Forms.{AreForms}
use Rattle.ots_pending.proofs.forms.forms_of.Given as goal

-- Those before have their forms.
abbrev pub invariant-loop-tree : goal.invariant-loop-tree
invariant-loop-tree l = AreForms (take l.tree-index l.trees) l.forms.items
