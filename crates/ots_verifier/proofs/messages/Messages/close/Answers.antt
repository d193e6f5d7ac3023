use Rattle.std.proofs.Common.{None}
use Rattle.ots_attest.specs.declared.attestation.Attestation.TheVariants as attestation
use Rattle.ots_verifier.proofs.InRows.{closes_in, held_closed}
use Rattle.ots_verifier.proofs.messages.Messages.close.Goals as goal

pub invariant_of-self : goal.invariant_of-self
invariant_of-self c =
    let s = c.self.inside in
    let h = c.self.invariant in (
      held_closed s.rows.items s.lengths c.close.new.self c.close.result h.0 c.close.ensures.room (c.close.ensures.closed (λ o n. None) (attestation.Bitcoin 0)) c.close.ensures.end,
      h.1,
    )

pub returns-clause-closes : goal.returns-clause-closes
returns-clause-closes c a =
    let s = c.self.inside in
    rw (← c.self.view_is) (closes_in s.rows.items s.lengths c.close.new.self c.close.result a (c.close.ensures.closed (λ o n. None) a))
