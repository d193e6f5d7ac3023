use Rattle.std.proofs.Common.{subst}
use Rattle.ots_store.specs.declared.form.Form.{Form}
use Rattle.ots_store.specs.Forms.{IsForm}
use Rattle.ots_store.proofs.Ordered.{anchor_covers}
use Rattle.ots_store.proofs.Rising.{not_anchor}
use Rattle.ots_store.proofs.progress.may_follow.Goals as goal

pub returns-in-Anchor-clause-covered : goal.returns-in-Anchor-clause-covered
returns-in-Anchor-clause-covered c is before r o progress form =
    anchor_covers before r c.in-Anchor.span c.args.tips.now c.args.group.now c.args.progress.now c.pass_anchor.new.progress.covered o progress
    (subst (λ (f : Form). IsForm f r) c.in-Anchor.is form) c.requires.few (c.pass_anchor.ensures.tip is) (c.pass_anchor.ensures.past is) (c.pass_anchor.ensures.covered is)

pub returns-in-Anchor-clause-no : goal.returns-in-Anchor-clause-no
returns-in-Anchor-clause-no c is before r o progress form =
    not_anchor before r c.in-Anchor.span c.args.tips.now c.args.group.now c.args.progress.now o progress (subst (λ (f : Form). IsForm f r) c.in-Anchor.is form) (c.pass_anchor.ensures.no is)
