use Rattle.ots_canon.proofs.Leading.{within_marks}
use Rattle.ots_canon.proofs.Chains.{shifted_none}
use Rattle.ots_canon.proofs.Pruned.{walk_begin, walk_done, walk_next, walk_falls, walk_end, run_items}
use Rattle.ots_canon.proofs.pruning.first_path.Goals as goal

pub loop-first-init : goal.loop-first-init
loop-first-init c = walk_begin c.args.height c.new-items.ensures.items c.new-path.ensures.items c.in_ok-gather_items.ensures

pub first_leading-requires : goal.first_leading-requires
first_leading-requires c = rw (c.deref-in-loop-first.ensures.value, c.deref-in-loop-first-2.ensures.value) (within_marks c.loop-first.items.items c.loop-first.invariant.items c.in_ok-leads.ensures)

pub run_of-requires : goal.run_of-requires
run_of-requires c = rw (c.deref-in-Some.ensures.value, c.deref-in-Some-2.ensures.value) (within_marks c.loop-first.items.items c.loop-first.invariant.items c.in_ok-leads.ensures)

pub items_after-requires-clause-items : goal.items_after-requires-clause-items
items_after-requires-clause-items c =
    rw (c.deref-in-Some-4.ensures.value, shifted_none c.in_ok-run.run'.items)
    (run_items c.args.tokens.now c.in_ok-leads.leads.items c.in-Some.first c.loop-first.items.items c.in_ok-run.run'.items
    (rw (c.deref-in-Some.ensures.value, c.deref-in-Some-2.ensures.value) at c.in_ok-run.ensures) c.loop-first.invariant.items)

pub loop-first-smaller : goal.loop-first-smaller
loop-first-smaller c =
    walk_falls (record {
      items = c.loop-first.invariant.items;
      marks = c.in_ok-leads.ensures;
      is_first = rw (c.deref-in-loop-first.ensures.value, c.deref-in-loop-first-2.ensures.value) at c.in-Some.ensures;
      are_after = rw (c.deref-in-Some-3.ensures.value, c.deref-in-Some-4.ensures.value, shifted_none c.in_ok-run.run'.items, c.in_ok-run.ensures, c.deref-in-Some.ensures.value, c.deref-in-Some-2.ensures.value) at c.in_ok-items.ensures;
    })

pub loop-first-preserved : goal.loop-first-preserved
loop-first-preserved c =
    walk_next (rw c.in_ok-copy.ensures c.at-token.ensures) (rw c.in_ok-copy.ensures (λ a e. c.in_default-token.not-Attestation a e)) c.in_ok-push.ensures.items (record {
      items = c.loop-first.invariant.items;
      marks = c.in_ok-leads.ensures;
      is_first = rw (c.deref-in-loop-first.ensures.value, c.deref-in-loop-first-2.ensures.value) at c.in-Some.ensures;
      are_after = rw (c.deref-in-Some-3.ensures.value, c.deref-in-Some-4.ensures.value, shifted_none c.in_ok-run.run'.items, c.in_ok-run.ensures, c.deref-in-Some.ensures.value, c.deref-in-Some-2.ensures.value) at c.in_ok-items.ensures;
    }) c.loop-first.invariant

pub returns-in-Attestation : goal.returns-in-Attestation
returns-in-Attestation c =
    walk_done {a = c.in-Attestation.field-0} c.push.new.self.items (rw c.in_ok-copy.ensures c.at-token.ensures) (rw c.in_ok-copy.ensures c.in-Attestation.is) c.in_ok-push.ensures.items c.in_ok-leads.ensures
    (rw (c.deref-in-loop-first.ensures.value, c.deref-in-loop-first-2.ensures.value) at c.in-Some.ensures) c.loop-first.invariant

pub returns : goal.returns
returns c =
    walk_end c.args.tokens.now c.in_ok-leads.leads.items c.args.height c.loop-first.items.items c.loop-first.path.items
    (rw (c.deref-in-loop-first.ensures.value, c.deref-in-loop-first-2.ensures.value) at c.in_default.ensures) c.in_ok-leads.ensures c.loop-first.invariant
