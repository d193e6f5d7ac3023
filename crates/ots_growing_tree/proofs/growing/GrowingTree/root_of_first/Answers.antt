use Rattle.std.proofs.Common.{arith, ◌≤◌, ◌∙◌, ◌*◌, ◌/◌, ◌%◌, ◌++◌, [], ap, sym, length, length-take-le, append-nil, take, drop, refl}
use Rattle.std.specs.Prelude.{option_to_list}
use Rattle.ots_merkle.specs.CalendarTree.{root_if_any}
use Rattle.ots_growing_tree.specs.declared.growing.TheConstants.{RUN}
use Rattle.ots_growing_tree.proofs.Closed.{counted_run, root_closed}
use Rattle.ots_growing_tree.proofs.Levels.{cut_rest, has_first}
use Rattle.ots_growing_tree.proofs.growing.GrowingTree.root_of_first.Goals as goal

pub slice_bounds-root_above-end : goal.slice_bounds-root_above-end
slice_bounds-root_above-end c =
    let p = c.self.inside.parts in
    let fits : c.args.n ≤ length c.self.inside.pushed.leaves = omega (arith, c.requires.most, ap (λ g. length g.leaves) c.self.view_is) in
    sym (length-take-le _ c.deref.result.now (has_first _ _ c.args.n p c.deref.result.now p.above.items c.self.invariant fits c.deref.ensures.value refl).inside)

pub root_above-requires : goal.root_above-requires
root_above-requires c =
    let fits : c.args.n ≤ length c.self.inside.pushed.leaves = omega (arith, c.requires.most, ap (λ g. length g.leaves) c.self.view_is) in
    (has_first _ _ c.args.n c.self.inside.parts c.deref.result.now c.deref-2.result.now c.self.invariant fits c.deref.ensures.value c.deref-2.ensures.value).begins

pub returns : goal.returns
returns c =
    let leaves = c.self.inside.pushed.leaves in
    let same = ap (λ g. g.leaves) c.self.view_is in
    let fits : c.args.n ≤ length leaves = omega (arith, c.requires.most, ap length same) in
    let xs = take c.args.n leaves in
    let runs = (has_first _ _ c.args.n c.self.inside.parts c.deref.result.now c.deref-2.result.now c.self.invariant fits c.deref.ensures.value c.deref-2.ensures.value).roots in
    let cut = c.root_of.ensures ∙ ap root_if_any (cut_rest leaves c.args.cut.now c.args.n fits (c.requires.cut ∙ ap (λ z. drop (RUN * (c.args.n / RUN)) (take c.args.n z)) (sym same))) in
    c.root_above.ensures ∙ (λ i. root_if_any (runs i ++ option_to_list (cut i)))
    ∙ sym (root_closed 4 (length xs / RUN) (length xs % RUN) xs [] (counted_run xs))
    ∙ ap root_if_any (append-nil xs ∙ ap (take c.args.n) same)
