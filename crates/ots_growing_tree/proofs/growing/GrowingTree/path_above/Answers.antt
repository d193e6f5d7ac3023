use Rattle.std.proofs.Common.{arith, ◌≤◌, ◌<◌, ◌∙◌, ◌*◌, ◌/◌, ◌%◌, ◌++◌, ap, sym, length, length-append, length-take-le, take, drop, refl}
use Rattle.std.specs.Prelude.{option_to_list}
use Rattle.ots_merkle.specs.CalendarTree.{path, root_if_any}
use Rattle.ots_growing_tree.specs.declared.growing.TheConstants.{RUN}
use Rattle.ots_growing_tree.proofs.Closed.{path_run, run_inside}
use Rattle.ots_growing_tree.proofs.Levels.{cut_rest, has_first}
use Rattle.ots_growing_tree.proofs.growing.GrowingTree.path_above.Goals as goal

pub slice_bounds-first-end : goal.slice_bounds-first-end
slice_bounds-first-end c =
    let p = c.self.inside.parts in
    let fits : c.args.n ≤ length c.self.inside.pushed.leaves = omega (arith, c.requires.most, ap (λ g. length g.leaves) c.self.view_is) in
    sym (length-take-le _ c.deref.result.now (has_first _ _ c.args.n p c.deref.result.now p.above.items c.self.invariant fits c.deref.ensures.value refl).inside)

pub add_path_above-requires-clause-above : goal.add_path_above-requires-clause-above
add_path_above-requires-clause-above c =
    let fits : c.args.n ≤ length c.self.inside.pushed.leaves = omega (arith, c.requires.most, ap (λ g. length g.leaves) c.self.view_is) in
    (has_first _ _ c.args.n c.self.inside.parts c.deref.result.now c.deref-2.result.now c.self.invariant fits c.deref.ensures.value c.deref-2.ensures.value).begins

pub add_path_above-requires-clause-inside : goal.add_path_above-requires-clause-inside
add_path_above-requires-clause-inside c =
    let leaves = c.self.inside.pushed.leaves in
    let same = ap (λ g. g.leaves) c.self.view_is in
    let fits : c.args.n ≤ length leaves = omega (arith, c.requires.most, ap length same) in
    let xs = take c.args.n leaves in
    let runs = (has_first _ _ c.args.n c.self.inside.parts c.deref.result.now c.deref-2.result.now c.self.invariant fits c.deref.ensures.value c.deref-2.ensures.value).roots in
    let cut = c.requires.closing ∙ ap (λ z. root_if_any (drop (RUN * (c.args.n / RUN)) (take c.args.n z))) (sym same) ∙ ap root_if_any (cut_rest leaves (drop (RUN * (c.args.n / RUN)) (take c.args.n leaves)) c.args.n fits refl) in
    omega (
      arith,
      run_inside xs c.args.i (omega (arith, c.requires.is_leaf, length-take-le c.args.n leaves fits)),
      ap length (λ i. runs i ++ option_to_list (cut i)),
      length-append (take (c.args.n / RUN) c.deref.result.now) (option_to_list c.args.closing),
    )

pub returns : goal.returns
returns c =
    let leaves = c.self.inside.pushed.leaves in
    let same = ap (λ g. g.leaves) c.self.view_is in
    let fits : c.args.n ≤ length leaves = omega (arith, c.requires.most, ap length same) in
    let xs = take c.args.n leaves in
    let own = take RUN (drop (RUN * (c.args.i / RUN)) xs) in
    let runs = (has_first _ _ c.args.n c.self.inside.parts c.deref.result.now c.deref-2.result.now c.self.invariant fits c.deref.ensures.value c.deref-2.ensures.value).roots in
    let cut = c.requires.closing ∙ ap (λ z. root_if_any (drop (RUN * (c.args.n / RUN)) (take c.args.n z))) (sym same) ∙ ap root_if_any (cut_rest leaves (drop (RUN * (c.args.n / RUN)) (take c.args.n leaves)) c.args.n fits refl) in
    let inside : c.args.i < length xs = omega (arith, c.requires.is_leaf, length-take-le c.args.n leaves fits) in
    let above = c.in_ok-add_path_above.ensures ∙ (λ i. c.new-ops.ensures i ++ path (runs i ++ option_to_list (cut i)) (c.args.i / RUN)) in
    record {
      path = (λ i. path (take RUN (drop (RUN * (c.args.i / RUN)) (take c.args.n (sym same i)))) (c.args.i % RUN) ++ above i)
          ∙ sym (path_run xs c.args.i own inside refl)
          ∙ ap (λ z. path (take c.args.n z) c.args.i) same;
    }
