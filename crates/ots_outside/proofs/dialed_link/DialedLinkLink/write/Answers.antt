use Rattle.std.proofs.Common.{refl}
use Rattle.ots_outside.proofs.Conversations.{writes_on, writing_stays, writes_only_there}
use Rattle.ots_outside.proofs.dialed_link.DialedLinkLink.write.Goals as goal

pub invariant_of-self : goal.invariant_of-self
invariant_of-self g c =
    record { is_conversation = writing_stays _ (g.D.Dialer.told c.args.self.now.dialer.now) _ c.write.result _ c.args.self.now.is_conversation c.write.ensures.bytes c.write.ensures.others }

pub returns-clause-bytes : goal.returns-clause-bytes
returns-clause-bytes g c =
    writes_on c.args.self.now.slot.0 (g.D.Dialer.told c.args.self.now.dialer.now) _ c.write.result _ c.args.self.now.is_conversation c.write.ensures.bytes c.write.ensures.others

pub returns-clause-same : goal.returns-clause-same
returns-clause-same g c =
    (refl, refl, writes_only_there c.args.self.now.slot.0 (g.D.Dialer.told c.args.self.now.dialer.now) _ c.write.result _ c.write.ensures.bytes c.write.ensures.others)
