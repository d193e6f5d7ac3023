use Rattle.std.proofs.Common.{◌≡◌, ◌++◌, ◌∷◌, [], ◌∙◌, sym, List, length-set, take_all, arith}
use Rattle.std.proofs.lemmas.List.{get_or-set_other}
use Rattle.ots_merkle.specs.CalendarTree.{path}
use Rattle.ots_round.specs.declared.ticket.Ticket.{Ticket}
use Rattle.ots_round.specs.Round.{leaves}
use Rattle.ots_tickets.specs.declared.settled.Settled.{Settled}
use Rattle.ots_tickets.specs.Tickets.{settles_from}
use Rattle.ots_tickets.proofs.Places.{settles_more, settles_long, any_default}
use Rattle.ots_tickets.proofs.rounds.settled_by.Goals as goal

pub loop-i-preserved : goal.loop-i-preserved
loop-i-preserved c =
    let i = c.loop-i.i in
    let tickets : List Ticket = c.args.tickets.now in
    let way : c.replace-path.result ≡ path (leaves tickets) i = c.replace-path.ensures.value ∙ c.index_mut.ensures.value ∙ any_default c.loop-i.paths.items i c.index_mut.result.now [] (omega (arith, c.loop-i.invariant.count)) ∙ c.loop-i.invariant.left i (omega arith) c.loop-i-test.true in
    record {
      count = length-set c.loop-i.paths.items i c.replace-path.new.dest ∙ c.loop-i.invariant.count;
      left = λ k le lt. get_or-set_other c.loop-i.paths.items i k c.replace-path.new.dest [] (λ same. absurd (omega arith)) ∙ c.loop-i.invariant.left k (omega arith) lt;
      so_far = c.in_ok-push.ensures.items
          ∙ (λ j. c.loop-i.invariant.so_far j ++ (record { ticket = c.index-tickets-i.is j; receipt = record { index = 0; commitment = c.args.commitment }; path = way j }) ∷ [])
          ∙ sym (settles_more 0 c.args.commitment (leaves tickets) tickets i c.index-tickets-i.result c.loop-i-test.true);
    }

pub returns : goal.returns
returns c =
    let all : List Settled = settles_from 0 c.args.commitment (leaves c.args.tickets.now) 0 c.args.tickets.now in
    c.loop-i.invariant.so_far ∙ take_all c.loop-i.i all (omega (arith, c.loop-i-test.false, settles_long 0 c.args.commitment (leaves c.args.tickets.now) 0 c.args.tickets.now))
