use Rattle.std.proofs.Common.{arith, rules, sym, ◌∙◌}
use Rattle.ots_canon.proofs.Gathering.{gathering_none, gathering_more, gathering_fork, gathering_within, gathered}
use Rattle.ots_canon.proofs.merging.gather_items.Goals as goal

pub loop-places-init : goal.loop-places-init
loop-places-init c = gathering_none c.args.tokens.now c.args.ends.now c.args.node c.args.places.now.items c.requires.node

pub overflow_add-at : goal.overflow_add-at
overflow_add-at c =
    let l = gathering_within c.loop-places.invariant in
    let same = c.requires.ends.length_is in
    search rules

pub bounds-ends-at : goal.bounds-ends-at
bounds-ends-at c =
    let f = gathering_fork c.requires.ends (sym c.is_fork.ensures ∙ c.loop-places-test.true) c.loop-places.invariant in
    let same = c.requires.ends.length_is in
    omega arith

pub loop-places-smaller : goal.loop-places-smaller
loop-places-smaller c = let f = gathering_fork c.requires.ends (sym c.is_fork.ensures ∙ c.loop-places-test.true) c.loop-places.invariant in omega arith

pub loop-places-preserved : goal.loop-places-preserved
loop-places-preserved c =
    gathering_more c.push.new.self.items c.requires.ends (gathering_fork c.requires.ends (sym c.is_fork.ensures ∙ c.loop-places-test.true) c.loop-places.invariant) c.in_ok-push.ensures.items c.loop-places.invariant

pub returns : goal.returns
returns c = gathered c.push-2.new.self.items (sym c.is_fork.ensures ∙ c.loop-places-test.false) c.in_ok-push-2.ensures.items c.loop-places.invariant
