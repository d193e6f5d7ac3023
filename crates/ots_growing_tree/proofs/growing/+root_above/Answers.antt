use Rattle.std.proofs.Common.{arith, ◌∙◌, ◌/◌, ◌%◌, ◌++◌, ap, sym, length, length-take-le, subst, take}
use Rattle.std.specs.Prelude.{option_to_list}
use Rattle.ots_merkle.specs.CalendarTree.{root_if_any}
use Rattle.ots_growing_tree.specs.TreeParts.{BeginAbove}
use Rattle.ots_growing_tree.specs.declared.growing.TheConstants.{GROUP}
use Rattle.ots_growing_tree.proofs.Closed.{counted_group, last_is, next_is, rest_small, root_closed}
use Rattle.ots_growing_tree.proofs.growing.+root_above.Goals as goal

pub slice_bounds-root_above-end : goal.slice_bounds-root_above-end
slice_bounds-root_above-end t c =
    let next = next_is c.args.above.now c.in-Some.next.now c.in-Some.higher.now c.args.level.now c.in-Some.ensures.cases.0 c.requires in
    sym (length-take-le _ c.deref.result.now (omega (arith, next.0, ap length c.deref.ensures.value)))

pub returns-in-None : goal.returns-in-None
returns-in-None t c =
    let small = rest_small c.args.level.now (last_is c.args.above.now c.args.level.now c.in-None.ensures.cases c.requires) in
    c.root_of-closing.ensures ∙ ap root_if_any (c.fill-count.ensures.nodes ∙ ap (λ z. z ++ option_to_list c.args.last) (c.rest.ensures.rest ∙ small))

pub returns-in-Some : goal.returns-in-Some
returns-in-Some t c =
    let level = c.args.level.now in
    let closing = c.root_of-closing.ensures ∙ ap root_if_any (c.fill-count.ensures.nodes ∙ ap (λ z. z ++ option_to_list c.args.last) c.rest.ensures.rest) in
    let next = ap (take (length level / GROUP)) c.deref.ensures.value ∙ (next_is c.args.above.now c.in-Some.next.now c.in-Some.higher.now level c.in-Some.ensures.cases.0 c.requires).1 in
    c.root_above.ensures ∙ (λ i. root_if_any (next i ++ option_to_list (closing i)))
    ∙ sym (root_closed 2 (length level / GROUP) (length level % GROUP) level (option_to_list c.args.last) (counted_group level c.args.last))

pub root_above-requires : goal.root_above-requires
root_above-requires t c =
    let level = c.args.level.now in
    let next = next_is c.args.above.now c.in-Some.next.now c.in-Some.higher.now level c.in-Some.ensures.cases.0 c.requires in
    (omega (arith, c.in-Some.ensures.cases.1), subst (λ z. BeginAbove c.in-Some.higher.now (take (length level / GROUP) z)) (sym c.deref.ensures.value) next.2)
