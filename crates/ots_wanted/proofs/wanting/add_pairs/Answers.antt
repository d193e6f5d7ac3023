use Rattle.std.proofs.Common.{◌∙◌, ◌+◌, ℕ, Bool, take, cond, add-zero, ap, sym, subst, arith}
use Rattle.std.specs.Prelude.{not}
use Rattle.ots_wanted.specs.inner.Asking.{HasAddress, TakesPairs, request_of}
use Rattle.ots_wanted.proofs.Taking.{asks_for, gain_more, long_enough, pair_at, pair_on}
use Rattle.ots_wanted.proofs.wanting.add_pairs.Goals as goal
use Rattle.ots_wanted.proofs.wanting.add_pairs.Goals.{then-not-branch, else-not-branch}

pub add_pair-requires-clause-address : goal.add_pair-requires-clause-address
add_pair-requires-clause-address c =
    let here = pair_at c.args.pairs.now c.loop-i.i (omega (arith, c.loop-i-test.true, c.len-i-end.ensures)) in
    subst (HasAddress c.args.kind) (sym (c.text-uri.ensures.text ∙ c.uri.ensures here.p here.at)) (c.requires c.loop-i.i here.p here.at).address

pub add_pair-requires-clause-long : goal.add_pair-requires-clause-long
add_pair-requires-clause-long c =
    let here = pair_at c.args.pairs.now c.loop-i.i (omega (arith, c.loop-i-test.true, c.len-i-end.ensures)) in
    long_enough c.args.kind here.p c.bytes-message.result.now c.message.result.now (c.bytes-message.ensures.bytes) (c.message.ensures here.p here.at)
    (c.requires c.loop-i.i here.p here.at) c.bytes-message.ensures.limits

pub returns-in_err-add_pair-clause-gains : goal.returns-in_err-add_pair-clause-gains
returns-in_err-add_pair-clause-gains c =
    gain_more c.args.set.now c.loop-i.set c.add_pair.new.set c.args.kind c.args.pairs.now c.loop-i.i c.loop-i.invariant.takes.gains c.in_err-add_pair.ensures.as_before

pub loop-i-preserved : goal.loop-i-preserved
loop-i-preserved c =
    let here = pair_at c.args.pairs.now c.loop-i.i (omega (arith, c.loop-i-test.true, c.len-i-end.ensures)) in
    let listed = c.in_ok-add_pair.field-0 in
    let is = asks_for c.args.kind here.p c.text-uri.result.now c.bytes-message.result.now (c.text-uri.ensures.text ∙ c.uri.ensures here.p here.at)
    (c.bytes-message.ensures.bytes ∙ c.message.ensures here.p here.at) in
    let more = pair_on c.args.set.now c.loop-i.set c.add_pair.new.set c.args.kind c.args.pairs.now c.loop-i.i c.loop-i.skipped here.p
    (request_of c.args.kind c.text-uri.result.now c.bytes-message.result.now) listed here.at is c.loop-i.invariant c.in_ok-add_pair.ensures.takes in
    let told : ℕ → Type 0 = TakesPairs c.args.set.now c.add_pair.new.set c.args.kind (take (c.loop-i.i + 1) c.args.pairs.now) in
    let count : Bool → ℕ = λ b. c.loop-i.skipped + cond (not b) 1 0 in
    elim c.if-not-branch.branch [
      | then-not-branch w ↦ subst told (ap count w.if-not-branch.true ∙ sym w.skipped-is) more
      | else-not-branch w ↦ subst told (ap count w.if-not-branch.false ∙ add-zero c.loop-i.skipped ∙ sym w.skipped-is) more
    ]
