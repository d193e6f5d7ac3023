use Rattle.std.proofs.Common.{◌≡◌, ◌+◌, ◌≤◌, List, Some, length, map, subst, sym, ap, take, refl, arith, ◌∙◌}
use Rattle.std.proofs.lemmas.List.{length-map, take_all}
use Rattle.ots_draft.proofs.Gathers.{form_has, next_node, nodes_of, some_gathered, too_long}
use Rattle.ots_draft.specs.declared.gathering.Gathered.{Gathered}
use Rattle.ots_draft.specs.inner.Gathered.{IsGathered, IsGatheredAny}
use Rattle.ots_tree.specs.Wire.{Node, pre}
use Rattle.ots_draft.proofs.gathering.form_within.Goals as goal

pub returns-then-more-most : goal.returns-then-more-most
returns-then-more-most c =
    let i = c.loop-tree.tree-index in
    let all = nodes_of c.args.trees.now c.are_trees.ensures in
    let n = next_node all.nodes c.args.trees.now i c.tree-item.result all.are c.loop-tree-test.true c.tree-item.is in
    too_long c.args.trees.now c.args.most (i + 1) c.in_ok-more.more all
    (subst (λ (ns : List Node). IsGathered ns c.in_ok-more.more) (sym n.more_are)
    (c.in_ok-more.ensures (take i all.nodes) n.node (c.loop-tree.invariant all.nodes all.are) n.is)) (omega arith)

pub loop-tree-preserved : goal.loop-tree-preserved
loop-tree-preserved c = λ nodes are.
    let i = c.loop-tree.tree-index in
    let n = next_node nodes c.args.trees.now i c.tree-item.result are c.loop-tree-test.true c.tree-item.is in
    subst (λ (ns : List Node). IsGathered ns c.in_ok-more.more) (sym n.more_are)
    (c.in_ok-more.ensures (take i nodes) n.node (c.loop-tree.invariant nodes are) n.is)

pub unwrap-all-requires : goal.unwrap-all-requires
unwrap-all-requires c =
    let i = c.loop-tree.tree-index in
    let all = nodes_of c.args.trees.now c.are_trees.ensures in
    let few : length all.nodes ≤ i = (let end = c.loop-tree-test.false in omega (arith, ap length all.are, length-map all.nodes pre)) in
    some_gathered all.nodes c.loop-tree.gathered
    (subst (λ (ns : List Node). IsGatheredAny ns c.loop-tree.gathered) (take_all i all.nodes few) (c.loop-tree.invariant all.nodes all.are))
    (omega (arith, ap length all.are, length-map all.nodes pre))

pub returns : goal.returns
returns c =
    let i = c.loop-tree.tree-index in
    let all = nodes_of c.args.trees.now c.are_trees.ensures in
    let few : length all.nodes ≤ i = (let end = c.loop-tree-test.false in omega (arith, ap length all.are, length-map all.nodes pre)) in
    let is : IsGathered all.nodes c.unwrap-all.result =
    subst (IsGatheredAny all.nodes) c.unwrap-all.ensures
    (subst (λ (ns : List Node). IsGatheredAny ns c.loop-tree.gathered) (take_all i all.nodes few) (c.loop-tree.invariant all.nodes all.are)) in
    record {
      whole = c.in_ok-canon.field-0;
      is = record { nodes = all.nodes; are = all.are; canon = form_has all.nodes c.unwrap-all.result.tree c.in_ok-canon.field-0 is.all c.in_ok-canon.ensures };
      told = refl;
    }
