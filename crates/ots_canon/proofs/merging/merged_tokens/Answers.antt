use Rattle.ots_canon.proofs.Forms.{if_ok}
use Rattle.ots_canon.proofs.Gathering.{items_more, items_some, items_all, form_of}
use Rattle.ots_canon.proofs.merging.merged_tokens.Goals as goal

pub loop-root-preserved : goal.loop-root-preserved
loop-root-preserved c = items_more c.args.roots.now c.loop-root.root-index c.loop-root-test.true c.in_ok-gather_items.ensures c.loop-root.invariant

pub write_node-requires-clause-some : goal.write_node-requires-clause-some
write_node-requires-clause-some c =
    items_some c.requires.some c.requires.roots (items_all c.args.roots.now c.loop-root.places.items c.loop-root.root-index c.loop-root-test.false c.loop-root.invariant)

pub returns : goal.returns
returns c =
    if_ok c.write_node.result _ _ (λ form h.
    form_of (items_all c.args.roots.now c.loop-root.places.items c.loop-root.root-index c.loop-root-test.false c.loop-root.invariant) h)
    c.write_node.ensures
