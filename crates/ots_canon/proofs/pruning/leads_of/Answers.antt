use Rattle.std.proofs.Common.{◌≡◌, ◌+◌, ◌-◌, ℕ, arith, sym, subst, rules}
use Rattle.ots_canon.specs.Leading.{AreLeadsFrom}
use Rattle.ots_canon.proofs.Leading.{leads_none, leads_earlier}
use Rattle.ots_canon.proofs.pruning.leads_of.Goals as goal

pub loop-at-init : goal.loop-at-init
loop-at-init c = record { in_range = (let e = c.len-at.ensures in omega arith); leads = leads_none c.len-at.ensures (let l = c.in_ok-resize.ensures.len in search rules) }

pub loop-at-preserved : goal.loop-at-preserved
loop-at-preserved c =
    let some = c.loop-at-test.true in
    let l = c.loop-at.invariant.in_range in
    let e : c.loop-at.at - 1 + 1 ≡ c.loop-at.at = omega arith in
    record {
      in_range = omega arith;
      leads = leads_earlier (omega arith) (subst (λ (z : ℕ). AreLeadsFrom c.args.tokens.now c.args.height z c.loop-at.leads.items) (sym e) c.loop-at.invariant.leads) c.leads_at.ensures;
    }
