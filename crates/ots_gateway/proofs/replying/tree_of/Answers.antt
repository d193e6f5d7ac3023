use Rattle.std.proofs.Common.{◌≡◌, ◌∙◌, List, sym, subst}
use Rattle.std.specs.Prelude.{IfOk}
use Rattle.ots_ops.specs.declared.op.Op.{Op}
use Rattle.ots_tree.specs.Made.{chain}
use Rattle.ots_tree.specs.Wire.{pre}
use Rattle.ots_gateway.proofs.Due.{under_is}
use Rattle.ots_gateway.proofs.replying.tree_of.Goals as goal

pub returns : goal.returns
returns c = λ node is.
    subst (λ (ops : List Op). IfOk c.under.result (λ tree. tree ≡ pre (chain ops node))) (c.items.ensures ∙ c.in_ok-way.ensures)
    (under_is c.under.result c.items.result.now c.in_ok-copy.field-0 node c.under.ensures (is ∙ sym c.in_ok-copy.ensures))
