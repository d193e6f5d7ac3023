use Rattle.std.proofs.Common.{true, refl}
use Rattle.ots_tree.specs.declared.token.Token.TheVariants as token
use Rattle.ots_tree.specs.OpenDepths.{one_more}
use Rattle.ots_tree.proofs.Walks.{leads, forks}
use Rattle.ots_tree.proofs.tree.count.Goals as goal

pub returns-in-Attestation-clause-step : goal.returns-in-Attestation-clause-step
returns-in-Attestation-clause-step c =
    let a = c.in-Attestation.field-0 in
    rw c.in-Attestation.is (leads one_more (token.Attestation a) c.args.walk.now c.close.new.self c.close.result (c.close.ensures.closed one_more a))

pub returns-in_ok-fork-in-Fork-clause-step : goal.returns-in_ok-fork-in-Fork-clause-step
returns-in_ok-fork-in-Fork-clause-step c =
    rw c.in-Fork.is (forks one_more c.args.walk.now c.fork.new.self (λ free. c.in_ok-fork-in-Fork.ensures.forked free one_more))

pub returns-in-Op-clause-step : goal.returns-in-Op-clause-step
returns-in-Op-clause-step c =
    let o = c.in-Op.field-0 in
    rw c.in-Op.is (leads one_more (token.Op o) c.args.walk.now c.lead.new.self true (c.lead.ensures.led one_more o (rw (c.saturating_add.ensures, c.last.ensures) refl)))
