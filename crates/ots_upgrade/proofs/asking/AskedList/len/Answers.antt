use Rattle.std.proofs.Common.{◌∙◌, sym}
use Rattle.ots_upgrade.proofs.AskedWith.{asked_count}
use Rattle.ots_upgrade.proofs.asking.AskedList.len.Goals as goal

pub returns : goal.returns
returns c = c.len.ensures ∙ sym (asked_count _ _ _ c.self.view_is c.self.invariant)
