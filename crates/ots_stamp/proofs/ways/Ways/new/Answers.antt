use Rattle.std.proofs.Common.{◌∙◌, arith, ap}
use Rattle.ots_merkle.specs.CalendarTree.{root}
use Rattle.ots_stamp.proofs.WayLemmas.{first_counted, first_short, keeps_ways, root_same, some_same}
use Rattle.ots_stamp.proofs.ways.Ways.new.Goals as goal

pub overflow_cast-result : goal.overflow_cast-result
overflow_cast-result c =
    let counted = first_counted c.args.leaves.items c.in_ok-tree.tree.leaves c.in_ok-longest.longest c.items.result.now (c.in_ok-tree.ensures ∙ c.deref.ensures.value) c.in_ok-longest.ensures.path c.items.ensures in
    omega (arith, counted, first_short c.args.leaves.items c.requires.most)

pub overflow_add-result : goal.overflow_add-result
overflow_add-result c =
    let counted = first_counted c.args.leaves.items c.in_ok-tree.tree.leaves c.in_ok-longest.longest c.items.result.now (c.in_ok-tree.ensures ∙ c.deref.ensures.value) c.in_ok-longest.ensures.path c.items.ensures in
    omega (arith, counted, first_short c.args.leaves.items c.requires.most)

pub invariant_of-result : goal.invariant_of-result
invariant_of-result c =
    let same = c.in_ok-tree.ensures ∙ c.deref.ensures.value in
    let counted = first_counted c.args.leaves.items c.in_ok-tree.tree.leaves c.in_ok-longest.longest c.items.result.now same c.in_ok-longest.ensures.path c.items.ensures in
    keeps_ways c.args.leaves.items c.in_ok-tree.tree.leaves c.unwrap.result _ c.requires.least c.requires.most same
    (some_same _ _ c.unwrap-root.result c.unwrap.result c.new.ensures c.unwrap.ensures
    ∙ root_same c.in_ok-tree.tree.leaves c.root.result c.unwrap-root.result c.root.ensures c.unwrap-root.ensures ∙ ap root same)
    (omega (arith, counted))
