use Rattle.std.proofs.Common.{arith, ◌<◌, ◌∙◌, ◌/◌, ◌++◌, ap, sym, length, length-append, length-take-le, subst, append_assoc, take}
use Rattle.std.specs.Prelude.{option_to_list}
use Rattle.std.proofs.lemmas.Result.{on_ok_weaker}
use Rattle.ots_merkle.specs.CalendarTree.{path, root_if_any}
use Rattle.ots_growing_tree.specs.TreeParts.{BeginAbove}
use Rattle.ots_growing_tree.specs.declared.growing.TheConstants.{GROUP}
use Rattle.ots_growing_tree.proofs.Closed.{group_inside, last_is, next_is, path_group, path_in_group}
use Rattle.ots_growing_tree.proofs.growing.+add_path_above.Goals as goal

pub slice_bounds-first-end : goal.slice_bounds-first-end
slice_bounds-first-end t c =
    let next = next_is c.args.above.now c.in-Some.next.now c.in-Some.higher.now c.args.level.now c.in-Some.ensures.cases.0 c.requires.above in
    sym (length-take-le _ c.deref.result.now (omega (arith, next.0, ap length c.deref.ensures.value)))

pub add_path_above-requires : goal.add_path_above-requires
add_path_above-requires t c =
    let level = c.args.level.now in
    let closing = c.root_of.ensures ∙ ap root_if_any (c.fill-count.ensures.nodes ∙ ap (λ z. z ++ option_to_list c.args.last) c.rest.ensures.rest) in
    let next = next_is c.args.above.now c.in-Some.next.now c.in-Some.higher.now level c.in-Some.ensures.cases.0 c.requires.above in
    let nodes = ap (take (length level / GROUP)) c.deref.ensures.value ∙ next.1 in (
      omega (arith, c.in-Some.ensures.cases.1),
      (
        subst (λ z. BeginAbove c.in-Some.higher.now (take (length level / GROUP) z)) (sym c.deref.ensures.value) next.2,
        omega (
          arith,
          group_inside level c.args.last c.args.i (omega (arith, c.requires.inside, length-append level (option_to_list c.args.last))),
          ap length (λ i. nodes i ++ option_to_list (closing i)),
          length-append (take (length level / GROUP) c.deref.result.now) (option_to_list c.root_of.result),
        ),
      ),
    )

pub returns-in-Some : goal.returns-in-Some
returns-in-Some t c =
    let level = c.args.level.now in
    let inside : c.args.i < length (level ++ option_to_list c.args.last) = omega (arith, c.requires.inside, length-append level (option_to_list c.args.last)) in
    let last = c.fill-count.ensures.nodes ∙ ap (λ z. z ++ option_to_list c.args.last) c.rest.ensures.rest in
    let closing = c.root_of.ensures ∙ ap root_if_any last in
    let next = ap (take (length level / GROUP)) c.deref.ensures.value ∙ (next_is c.args.above.now c.in-Some.next.now c.in-Some.higher.now level c.in-Some.ensures.cases.0 c.requires.above).1 in
    on_ok_weaker c.add_path_above.result (λ e.
    e ∙ (λ i. c.in_ok-add_path.ensures i ++ path (next i ++ option_to_list (closing i)) (c.args.i / GROUP))
    ∙ append_assoc c.args.ops.now _ _
    ∙ ap (λ z. c.args.ops.now ++ z) (sym (path_group level c.args.last c.args.i _ c.group_at.result.now inside last c.group_at.ensures)))
    c.add_path_above.ensures

pub returns-in-None : goal.returns-in-None
returns-in-None t c =
    let level = c.args.level.now in
    let inside : c.args.i < length (level ++ option_to_list c.args.last) = omega (arith, c.requires.inside, length-append level (option_to_list c.args.last)) in
    let last = c.fill-count.ensures.nodes ∙ ap (λ z. z ++ option_to_list c.args.last) c.rest.ensures.rest in
    c.in_ok-add_path.ensures
    ∙ ap (λ z. c.args.ops.now ++ z) (path_in_group level c.args.last c.args.i _ c.group_at.result.now inside (last_is c.args.above.now level c.in-None.ensures.cases c.requires.above) last
    c.group_at.ensures)
