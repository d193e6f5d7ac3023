use Rattle.std.proofs.Common.{rules}
use Rattle.ots_conversation.proofs.Conversing.{Had, talks}
use Rattle.ots_conversation.proofs.conversation.converse.Given.{Over}
use Rattle.ots_conversation.proofs.conversation.converse.Goals as goal

had : (g : Over) (c : goal.After-close g) → Had g.D.Dialer.told g.D.Dialer.faults
    (record { address = c.args.address.now; asked = c.args.asked.now })
    c.in-Ok.slot.0 c.args.dialer.now c.connect.new.self c.exchange-read.new.link.dialer.now c.close.new.self c.exchange-read.result
had g c = record {
  connects = search rules;
  replies = search rules;
  begun = search rules;
  same = search rules;
  exchanged = search rules;
  closed = search rules;
  others = search rules;
  ended = search rules;
}

pub returns : goal.returns
returns g c = talks _ _ _ (had g c)
