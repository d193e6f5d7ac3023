use Rattle.std.proofs.Common.{rules, sym, ◌∙◌}
use Rattle.ots_canon.proofs.Nodes.{node_in, item_has}
use Rattle.ots_canon.proofs.Gathering.{gathered_op, gathered_none, op_here, after_node}
use Rattle.ots_canon.proofs.merging.gather_after.Goals as goal

pub overflow_add-place : goal.overflow_add-place
overflow_add-place c =
    let l = node_in (item_has c.requires.item) in
    let same = c.requires.ends.length_is in
    search rules

pub gather_items-requires-clause-node : goal.gather_items-requires-clause-node
gather_items-requires-clause-node c = after_node (op_here c.requires.item c.requires.ends (sym c.is_op.ensures ∙ c.if-is_op.true))

pub returns-in_ok-gather_items : goal.returns-in_ok-gather_items
returns-in_ok-gather_items c =
    gathered_op c.requires.ends (op_here c.requires.item c.requires.ends (sym c.is_op.ensures ∙ c.if-is_op.true)) c.in_ok-gather_items.ensures

pub returns-else-is_op : goal.returns-else-is_op
returns-else-is_op c = gathered_none c.args.after.now.items c.requires.ends c.requires.item (sym c.is_op.ensures ∙ c.if-is_op.false)
