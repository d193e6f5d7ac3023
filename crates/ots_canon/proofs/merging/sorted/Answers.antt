use Rattle.std.proofs.Common.{rules}
use Rattle.ots_canon.proofs.Forms.{if_ok}
use Rattle.ots_canon.proofs.Nodes.{node_in}
use Rattle.ots_canon.proofs.Runs.{sorted_items, sort_of}
use Rattle.ots_canon.proofs.merging.sorted.Goals as goal
use Rattle.ots_tree.specs.Wire.{last}

pub items_at-requires : goal.items_at-requires
items_at-requires c = rw c.deref-2.ensures.value (λ k d l. let i = c.requires k d l in node_in (record { node = last i.item; is_at = i.is_at }))

pub returns : goal.returns
returns c =
    if_ok c.places_of.result _ _ (λ places e.
    sort_of (rw c.deref-2.ensures.value at c.in_ok-items.ensures) c.sort_by.ensures.permutation (sorted_items c.sort_by.new.self.items c.in_ok-sort_by.ensures.sorted (λ a r g called. search rules))
    (rw c.deref-3.ensures.value at e))
    c.places_of.ensures
