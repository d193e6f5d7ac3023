use Rattle.std.proofs.Common.{ℕ, sym, subst}
use Rattle.ots_http.specs.Seen.{LinkSeen}
use Rattle.ots_http.specs.declared.replying.Reply.TheVariants.{Text}
use Rattle.ots_gateway.specs.Arrived.{IsServed}
use Rattle.ots_gateway.specs.Round.{Sends, in_words}
use Rattle.ots_gateway.specs.declared.arrived.Arrived.{Arrived}
use Rattle.ots_gateway.proofs.Request.{words_served}
use Rattle.ots_gateway.proofs.hearing.tell.Goals as goal
use Rattle.ots_gateway.proofs.hearing.tell.Goals.{in-LinkFault, in_default}

pub returns-clause-sends : goal.returns-clause-sends
returns-clause-sends g c =
    let old : LinkSeen = record { told = g.L.Link.told c.args.link.now; faults = g.L.Link.faults c.args.link.now } in
    let new : LinkSeen = record { told = g.L.Link.told c.send.new.link; faults = g.L.Link.faults c.send.new.link } in
    let sends : Sends (in_words c.args.word) old new c.send.result =
    subst (λ (k : ℕ). Sends (Text k c.args.word) old new c.send.result) c.status-status.ensures c.send.ensures.sends in (
      c.send.result,
      sends,
      elim c.match-send.branch [
        | in-LinkFault w ↦ subst (λ (a : Arrived). IsServed a c.send.result) (sym w.result-is) w.in-LinkFault.is
        | in_default w ↦ subst (λ (a : Arrived). IsServed a c.send.result) (sym w.result-is)
            (words_served c.args.word old new c.send.result c.status-status.result sends w.in_default.not-LinkFault c.status-status.ensures)
      ],
    )
