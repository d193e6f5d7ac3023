use Rattle.std.proofs.Common.{sym, subst}
use Rattle.ots_http.specs.Seen.{LinkSeen}
use Rattle.ots_gateway.specs.Arrived.{IsHeard}
use Rattle.ots_gateway.specs.declared.arrived.Arrived.TheVariants as arrived
use Rattle.ots_gateway.specs.declared.served.GateServed.TheVariants.{LinkFault}
use Rattle.ots_gateway.proofs.Replied.{other_serves, waited_serves}
use Rattle.ots_gateway.proofs.replying.serve.Goals as goal

pub returns-in_ok-served-in-Waits-clause-served : goal.returns-in_ok-served-in-Waits-clause-served
returns-in_ok-served-in-Waits-clause-served g c = λ heard old given is answer.
    let mid : LinkSeen = record { told = g.L.Link.told c.args.link.now; faults = g.L.Link.faults c.args.link.now } in
    let new : LinkSeen = record { told = g.L.Link.told c.reply_to.new.link; faults = g.L.Link.faults c.reply_to.new.link } in
    let served = waited_serves given c.args.place heard old mid new c.in-Waits.waiting c.in_ok-served-in-Waits.served
    (subst (IsHeard heard old mid) c.in-Waits.is is) (c.in_ok-served-in-Waits.ensures.sends given answer) in
    (served.0, sym served.1)

pub returns-in-LinkFault-clause-served : goal.returns-in-LinkFault-clause-served
returns-in-LinkFault-clause-served g c = λ heard old given is answer.
    let mid : LinkSeen = record { told = g.L.Link.told c.args.link.now; faults = g.L.Link.faults c.args.link.now } in
    let served = other_serves given c.args.place heard old mid arrived.LinkFault LinkFault (λ w same. absurd cc)
    (subst (IsHeard heard old mid) c.in-LinkFault.is is) (λ t h. h) in
    (served.0, sym served.1)
