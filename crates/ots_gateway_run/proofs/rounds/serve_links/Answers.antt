use Rattle.std.proofs.Common.{◌∙◌, List, map, refl, subst}
use Rattle.std.proofs.lemmas.List.{take_at}
use Rattle.ots_gateway.specs.Round.{EachMayServe}
use Rattle.ots_gateway_run.specs.Accepted.{GivesAllBack}
use Rattle.ots_gateway_run.specs.Rounds.{Gathered, seen}
use Rattle.ots_gateway_run.specs.Serving.{lost}
use Rattle.ots_gateway_run.proofs.Stepping.{served_one}
use Rattle.ots_gateway_run.proofs.rounds.serve_links.Goals as goal

pub returns-in-Ok-clause-serves : goal.returns-in-Ok-clause-serves
returns-in-Ok-clause-serves g c =
    let whole = take_at c.serve_round-served.new.links _ c.args.links.now.len (c.serve_round-served.auto.links ∙ c.as_mut_slice.ensures.len) in
    let r : Gathered g.row.A-Link.Denot = record { links = c.as_mut_slice.result.now; left = c.serve_round-served.new.links; served = c.in-Ok.round.served.items; outcomes = c.in-Ok.round.outcomes.items } in
    served_one (record { coming = g.A.Accepter.coming; returned = g.A.Accepter.returned; accepted = g.A.Accepter.accepted; accept_faults = g.A.Accepter.faults; link_told = g.A.Link.Link.told; link_faults = g.A.Link.Link.faults; told = g.T.Dialer.told; dial_faults = g.T.Dialer.faults }) c.args.rounds.now.calendars.now c.args.rounds.now.min _ c.args.links.now.items _ _ _ _ r c.as_mut_slice.ensures.value c.in-Ok.ensures.round
    (subst (λ (ls : List g.row.A-Link.Denot). GivesAllBack (g.A.Accepter.returned c.args.accepter.now) ls (g.A.Accepter.returned c.give_all_back.new.accepter)) whole c.give_all_back.ensures.returned)
    c.print.result c.print.ensures.printed

pub returns-in-Err-clause-serves : goal.returns-in-Err-clause-serves
returns-in-Err-clause-serves g c =
    let whole = take_at c.serve_round-served.new.links _ c.args.links.now.len (c.serve_round-served.auto.links ∙ c.as_mut_slice.ensures.len) in
    lost c.serve_round-served.new.links
    (subst (λ (ls : List g.row.A-Link.Denot). EachMayServe (map (seen (record { coming = g.A.Accepter.coming; returned = g.A.Accepter.returned; accepted = g.A.Accepter.accepted; accept_faults = g.A.Accepter.faults; link_told = g.A.Link.Link.told; link_faults = g.A.Link.Link.faults; told = g.T.Dialer.told; dial_faults = g.T.Dialer.faults })) ls) (map (seen (record { coming = g.A.Accepter.coming; returned = g.A.Accepter.returned; accepted = g.A.Accepter.accepted; accept_faults = g.A.Accepter.faults; link_told = g.A.Link.Link.told; link_faults = g.A.Link.Link.faults; told = g.T.Dialer.told; dial_faults = g.T.Dialer.faults })) c.serve_round-served.new.links)) c.as_mut_slice.ensures.value c.in-Err.ensures.broken_off)
    (subst (λ (ls : List g.row.A-Link.Denot). GivesAllBack (g.A.Accepter.returned c.args.accepter.now) ls (g.A.Accepter.returned c.give_all_back.new.accepter)) whole c.give_all_back.ensures.returned)
    refl refl
