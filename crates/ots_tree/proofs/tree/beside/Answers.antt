use Rattle.std.proofs.Common.{rules, arith}
use Rattle.ots_tree.specs.Kept.{IsKept}
use Rattle.ots_tree.specs.LastItem.{IsLastZero}
use Rattle.ots_tree.proofs.Numbered.{kept_length}
use Rattle.ots_tree.proofs.Items.{kept_starts, lists_kept, lists_beside}
use Rattle.ots_tree.proofs.tree.beside.Goals as goal

pub last_item-place-requires-clause-some : goal.last_item-place-requires-clause-some
last_item-place-requires-clause-some c =
    let kept : IsKept c.first.inside.tokens.items c.deref.result.now = search rules in
    (kept_starts c.first.inside.tokens.items c.deref.result.now kept).some

pub last_item-place-requires-clause-first : goal.last_item-place-requires-clause-first
last_item-place-requires-clause-first c =
    let kept : IsKept c.first.inside.tokens.items c.deref.result.now = search rules in
    (kept_starts c.first.inside.tokens.items c.deref.result.now kept).at_root

pub insert-requires : goal.insert-requires
insert-requires c = omega (arith, kept_length c.first.inside.tokens.items c.first.inside.depths.items c.first.invariant, c.last_item-place.ensures.in_range, c.deref.ensures.len)

pub invariant_of-result : goal.invariant_of-result
invariant_of-result c =
    let last : IsLastZero c.first.inside.depths.items c.last_item-place.result = search rules in
    lists_kept c.first.inside.tokens.items c.second.inside.tokens.items c.first.inside.depths.items c.second.inside.depths.items c.last_item-place.result _ _ _ _
    c.first.invariant c.second.invariant last
    c.in_ok-insert.ensures.items c.in_ok-append.ensures.items c.in_ok-insert-2.ensures.items c.in_ok-append-2.ensures.items

pub returns : goal.returns
returns c =
    let last : IsLastZero c.first.inside.depths.items c.last_item-place.result = search rules in
    let made = lists_beside c.first.inside.tokens.items c.second.inside.tokens.items c.first.inside.depths.items c.second.inside.depths.items c.last_item-place.result _ _
    c.first.invariant c.second.invariant last c.in_ok-insert.ensures.items c.in_ok-append.ensures.items in
    search (rules, made)
