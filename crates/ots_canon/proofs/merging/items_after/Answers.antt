use Rattle.std.proofs.Common.{ℕ, ◌+◌, sym, subst, arith, rules}
use Rattle.std.proofs.lemmas.List.{get_or-map, length-map, take_all}
use Rattle.ots_canon.specs.Places.{IsItem, GathersAfter}
use Rattle.ots_canon.specs.Chains.{shifted}
use Rattle.ots_canon.proofs.Nodes.{node_in, item_has}
use Rattle.ots_canon.proofs.Gathering.{after_next}
use Rattle.ots_canon.proofs.merging.items_after.Goals as goal

pub gather_after-requires-clause-item : goal.gather_after-requires-clause-item
gather_after-requires-clause-item c =
    let len = length-map c.args.run.now (λ (k : ℕ). k + c.args.steps) in
    let l = c.loop-place-test.true in
    subst (IsItem c.args.tokens.now) (get_or-map (λ (k : ℕ). k + c.args.steps) c.args.run.now c.loop-place.place-index 0 0 l) (c.requires.items c.loop-place.place-index 0 (omega arith))

pub overflow_add-place : goal.overflow_add-place
overflow_add-place c =
    let len = length-map c.args.run.now (λ (k : ℕ). k + c.args.steps) in
    let l = c.loop-place-test.true in
    let item = subst (IsItem c.args.tokens.now) (get_or-map (λ (k : ℕ). k + c.args.steps) c.args.run.now c.loop-place.place-index 0 0 l) (c.requires.items c.loop-place.place-index 0 (omega arith)) in
    let within = node_in (item_has item) in
    let same = c.requires.ends.length_is in
    search rules

pub loop-place-preserved : goal.loop-place-preserved
loop-place-preserved c =
    let len = length-map c.args.run.now (λ (k : ℕ). k + c.args.steps) in
    let l = c.loop-place-test.true in
    after_next (shifted c.args.steps c.args.run.now) c.loop-place.place-index (omega arith)
    (subst (λ (z : ℕ). GathersAfter c.args.tokens.now c.args.ends.now z c.loop-place.after.items c.gather_after.new.after.items) (sym (get_or-map (λ (k : ℕ). k + c.args.steps) c.args.run.now c.loop-place.place-index 0 0 l)) c.in_ok-gather_after.ensures)
    c.loop-place.invariant

pub returns : goal.returns
returns c =
    let len = length-map c.args.run.now (λ (k : ℕ). k + c.args.steps) in
    let l = c.loop-place-test.false in
    rw (take_all c.loop-place.place-index (shifted c.args.steps c.args.run.now) (omega arith)) at c.loop-place.invariant
