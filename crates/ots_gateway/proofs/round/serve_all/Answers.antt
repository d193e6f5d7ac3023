use Rattle.std.proofs.Common.{◌∙◌, ℕ, List, ap, arith, length, map, subst, sym}
use Rattle.std.proofs.lemmas.List.{length-map}
use Rattle.ots_http.specs.Seen.{LinkSeen}
use Rattle.ots_merkle.specs.Hashes.{AreHashes}
use Rattle.ots_gateway.specs.Arrived.{HearAll, waiting_in}
use Rattle.ots_gateway.specs.Round.{Asks}
use Rattle.ots_gateway.specs.Ways.{leaf, leaves}
use Rattle.ots_gateway.specs.declared.arrived.Arrived.{Arrived}
use Rattle.ots_gateway.proofs.Answering.{are_leaves}
use Rattle.ots_gateway.proofs.Arriving.{any_err, heard_each, waiting_same}
use Rattle.ots_gateway.proofs.Replied.{heard_long}
use Rattle.ots_gateway.proofs.Whole.{keeps_answer}
use Rattle.ots_gateway.proofs.round.serve_all.Goals as goal

pub ask-requires-clause-most : goal.ask-requires-clause-most
ask-requires-clause-most g c =
    let seen : g.row.L.Denot → LinkSeen = (λ k. record { told = g.L.Link.told k; faults = g.L.Link.faults k }) in
    let heard = c.in_ok-arrived.ensures.heard in
    let long = heard_long heard.0 _ _ _ heard.1 in
    omega (arith, c.in_ok-leaves.ensures.few, c.deref.ensures.len, c.requires.links, long.1, length-map c.args.links.now seen, ap length c.deref.ensures.value)

pub ask-requires-clause-hashes : goal.ask-requires-clause-hashes
ask-requires-clause-hashes g c = subst AreHashes (sym c.in_ok-leaves.ensures.leaves) (are_leaves (waiting_in c.deref.result.now))

pub reply_all-requires-clause-links : goal.reply_all-requires-clause-links
reply_all-requires-clause-links g c =
    let seen : g.row.L.Denot → LinkSeen = (λ k. record { told = g.L.Link.told k; faults = g.L.Link.faults k }) in
    let heard = c.in_ok-arrived.ensures.heard in
    let long = heard_long heard.0 _ _ _ heard.1 in
    omega (arith, c.in_ok-arrived.ensures.count, long.1, length-map c.args.links.now seen, ap length c.deref-2.ensures.value)

pub reply_all-requires-clause-answer : goal.reply_all-requires-clause-answer
reply_all-requires-clause-answer g c =
    keeps_answer g.T.Dialer.told g.T.Dialer.faults c.args.calendars.now c.args.min c.in_ok-leaves.leaves.items c.args.dialer.now _ _ c.in_ok-answer.ensures.0 c.in_ok-answer.answer _
    c.in_ok-answer.ensures.1 c.in_ok-answer.ensures.2
    (omega (
      arith,
      ap length c.in_ok-leaves.ensures.leaves,
      length-map (waiting_in c.deref.result.now) leaf,
      ap (λ (bs : List Arrived). length (waiting_in bs)) c.deref.ensures.value,
      ap (λ (bs : List Arrived). length (waiting_in bs)) c.deref-2.ensures.value,
    ))

pub returns-clause-round : goal.returns-clause-round
returns-clause-round g c =
    let olds : List LinkSeen = map (λ k. record { told = g.L.Link.told k; faults = g.L.Link.faults k }) c.args.links.now in
    let mids : List LinkSeen = map (λ k. record { told = g.L.Link.told k; faults = g.L.Link.faults k }) c.hear_all.new.links in
    let heard = c.in_ok-arrived.ensures.heard in
    let answer = c.in_ok-answer.ensures in
    record {
      heard = heard.0;
      draws = heard.2;
      given = answer.0;
      asks = subst (λ (ls : List (List ℕ)). Asks g.T.Dialer.told g.T.Dialer.faults c.args.calendars.now c.args.min ls c.args.dialer.now c.ask.new.dialer c.in_ok-answer.outcomes.items answer.0)
          (c.in_ok-leaves.ensures.leaves ∙ ap (λ (bs : List Arrived). leaves (waiting_in bs)) c.deref.ensures.value
          ∙ ap leaves (waiting_same heard.0 olds mids c.in_ok-arrived.arrived.items heard.1)) answer.1;
      serves = c.in_ok-served.ensures.served heard.0 olds answer.0 (subst (HearAll heard.0 olds mids) (sym c.deref-2.ensures.value) heard.1) answer.2;
    }

pub returns-in_err-leaves-clause-broken_off : goal.returns-in_err-leaves-clause-broken_off
returns-in_err-leaves-clause-broken_off g c =
    let heard = c.in_ok-arrived.ensures.heard in
    any_err c.from_residual-in_err-leaves.result _ (heard_each heard.0 _ _ _ heard.1)

pub returns-in_err-answer-clause-broken_off : goal.returns-in_err-answer-clause-broken_off
returns-in_err-answer-clause-broken_off g c =
    let heard = c.in_ok-arrived.ensures.heard in
    any_err c.from_residual-in_err-answer.result _ (heard_each heard.0 _ _ _ heard.1)

pub returns-in_err-served-clause-broken_off : goal.returns-in_err-served-clause-broken_off
returns-in_err-served-clause-broken_off g c =
    let olds : List LinkSeen = map (λ k. record { told = g.L.Link.told k; faults = g.L.Link.faults k }) c.args.links.now in
    let mids : List LinkSeen = map (λ k. record { told = g.L.Link.told k; faults = g.L.Link.faults k }) c.hear_all.new.links in
    let heard = c.in_ok-arrived.ensures.heard in
    let answer = c.in_ok-answer.ensures in
    any_err c.from_residual-in_err-served.result _
    (c.in_err-served.ensures.broken_off heard.0 olds answer.0 (subst (HearAll heard.0 olds mids) (sym c.deref-2.ensures.value) heard.1) answer.2)
