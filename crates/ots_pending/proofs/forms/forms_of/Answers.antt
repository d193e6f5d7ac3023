use Rattle.ots_pending.proofs.SameForms.{forms_next}
use Rattle.ots_pending.proofs.forms.forms_of.Goals as goal

pub loop-tree-preserved : goal.loop-tree-preserved
loop-tree-preserved c =
    forms_next c.args.trees.now c.loop-tree.forms.items c.push.new.self.items c.loop-tree.tree-index c.tree-item.result c.in_ok-form_of.field-0 c.loop-tree-test.true c.tree-item.is
    c.loop-tree.invariant c.in_ok-form_of.ensures c.in_ok-push.ensures.items
