use Rattle.std.proofs.Common.{◌≡◌, ◌+◌, ◌-◌, ◌<◌, ◌≤◌, suc, length, arith, rules, ◌∙◌}
use Rattle.std.proofs.lemmas.List.{get_or_default}
use Rattle.ots_canon.specs.Frames.{IsRunEnd}
use Rattle.ots_canon.proofs.Forms.{on_ok}
use Rattle.ots_canon.proofs.Chains.{run_chain, chain_items}
use Rattle.ots_canon.proofs.Writing.{writes, run_facts, line_within}
use Rattle.ots_canon.proofs.merging.write_item.Goals as goal

pub slice_bounds-common_steps-end : goal.slice_bounds-common_steps-end
slice_bounds-common_steps-end c =
    let within = c.run_end-end.ensures.within in
    let l : c.run_end-end.result ≤ length c.deref-2.result.now = rw c.deref-2.ensures.value (rw c.deref.ensures.value at within) in
    search rules

pub common_steps-steps-requires-clause-alike : goal.common_steps-steps-requires-clause-alike
common_steps-steps-requires-clause-alike c = rw c.deref-2.ensures.value (run_chain (run_facts (rw c.deref.ensures.value at c.run_end-end.ensures) c.requires.frame.items))

pub slice_bounds-items_after-end : goal.slice_bounds-items_after-end
slice_bounds-items_after-end c =
    let within = c.run_end-end.ensures.within in
    let l : c.run_end-end.result ≤ length c.deref-3.result.now = rw c.deref-3.ensures.value (rw c.deref.ensures.value at within) in
    search rules

pub items_after-requires-clause-items : goal.items_after-requires-clause-items
items_after-requires-clause-items c =
    let facts = run_facts (rw c.deref.ensures.value at c.run_end-end.ensures) c.requires.frame.items in
    rw c.deref-3.ensures.value (chain_items c.common_steps-steps.result _ c.requires.ends facts (rw c.deref-2.ensures.value at c.common_steps-steps.ensures))

pub overflow_add-first : goal.overflow_add-first
overflow_add-first c =
    let e = c.index-first.ensures ∙ get_or_default c.args.frame.places.items c.args.frame.next c.index-first.result.now 0 c.requires.frame.some in
    let run : IsRunEnd c.args.tokens.now c.args.frame.places.items c.args.frame.next c.run_end-end.result = rw c.deref.ensures.value at c.run_end-end.ensures in
    let l = line_within run (run_facts run c.requires.frame.items) (rw c.deref-2.ensures.value at c.common_steps-steps.ensures) in
    let same = c.requires.ends.length_is in
    let within : c.index-first.result.now + c.common_steps-steps.result < length c.args.ends.now = omega arith in
    search rules

pub overflow_add-first-2 : goal.overflow_add-first-2
overflow_add-first-2 c =
    let e = c.index-first.ensures ∙ get_or_default c.args.frame.places.items c.args.frame.next c.index-first.result.now 0 c.requires.frame.some in
    let run : IsRunEnd c.args.tokens.now c.args.frame.places.items c.args.frame.next c.run_end-end.result = rw c.deref.ensures.value at c.run_end-end.ensures in
    let l = line_within run (run_facts run c.requires.frame.items) (rw c.deref-2.ensures.value at c.common_steps-steps.ensures) in
    let same = c.requires.ends.length_is in
    let within : c.index-first.result.now + c.common_steps-steps.result < length c.args.ends.now = omega arith in
    search rules

pub write_line-requires-clause-within : goal.write_line-requires-clause-within
write_line-requires-clause-within c =
    let e = c.index-first.ensures ∙ get_or_default c.args.frame.places.items c.args.frame.next c.index-first.result.now 0 c.requires.frame.some in
    let run : IsRunEnd c.args.tokens.now c.args.frame.places.items c.args.frame.next c.run_end-end.result = rw c.deref.ensures.value at c.run_end-end.ensures in
    let l = line_within run (run_facts run c.requires.frame.items) (rw c.deref-2.ensures.value at c.common_steps-steps.ensures) in
    omega arith

pub returns : goal.returns
returns c =
    let e = c.index-first.ensures ∙ get_or_default c.args.frame.places.items c.args.frame.next c.index-first.result.now 0 c.requires.frame.some in
    let run : IsRunEnd c.args.tokens.now c.args.frame.places.items c.args.frame.next c.run_end-end.result = rw c.deref.ensures.value at c.run_end-end.ensures in
    let n : c.index-first.result.now + c.common_steps-steps.result + 1 - c.index-first.result.now ≡ suc c.common_steps-steps.result = omega arith in
    on_ok c.open_some.result _ _
    (λ o. writes
    c.requires.limits c.requires.ends c.requires.frame
    (record { is_end = run; chain = rw c.deref-2.ensures.value at c.common_steps-steps.ensures; are_after = rw c.deref-3.ensures.value at c.in_ok-after.ensures }) c.in_ok-leave.ensures
    (rw (n, e) at c.in_ok-write_line.ensures) o)
    c.open_some.ensures
