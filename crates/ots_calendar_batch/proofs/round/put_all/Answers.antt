use Rattle.std.proofs.Common.{◌+◌, List, length, ap, subst, sym, arith, rules, length-take, take}
use Rattle.ots_round.specs.declared.ticket.Ticket.{Ticket}
use Rattle.ots_calendar_batch.specs.declared.round.BatchError.TheVariants.{OutOfMemory}
use Rattle.ots_calendar_batch.specs.Round.{PutTo}
use Rattle.ots_calendar_batch.proofs.Putting.{all_put, many_tickets, one_put, put_failed, put_short, puts_as}
use Rattle.ots_calendar_endings.proofs.Running.{rose_later}
use Rattle.ots_calendar_batch.proofs.round.put_all.Goals as goal

pub put-requires : goal.put-requires
put-requires g c =
    let p = c.loop-digest.invariant.put in
    let i = c.loop-digest.digest-index in
    let many = many_tickets (take i c.args.digests.now) p.nonces c.loop-digest.tickets.items p.are in
    let few = c.requires.few in
    let less = c.loop-digest-test.true in
    omega (arith, ap length p.waits, many, length-take i c.args.digests.now, few, less)

pub returns-in_err-ticket-clause-puts : goal.returns-in_err-ticket-clause-puts
returns-in_err-ticket-clause-puts g c =
    puts_as _ _ c.from_residual-in_err-ticket.ensures.1
    (put_failed _ _ _ c.args.digests.now c.loop-digest.digest-index c.loop-digest.tickets.items c.loop-digest.book.tickets c.put.new.book.tickets c.digest-item.result
    c.loop-digest.invariant.put c.loop-digest-test.true c.digest-item.is _ _ _ c.in_err-ticket.field-0.0 (rose_later _ _ _ c.loop-digest.invariant.later) c.in_err-ticket.ensures.puts)

pub returns-in_err-push-clause-puts : goal.returns-in_err-push-clause-puts
returns-in_err-push-clause-puts g c =
    puts_as _ OutOfMemory c.from_residual-in_err-push.ensures.1
    (put_short _ _ _ c.args.digests.now _ _ c.put.new.book.tickets.waiting _
    (one_put _ _ _ c.args.digests.now c.loop-digest.digest-index c.loop-digest.tickets.items c.loop-digest.book.tickets c.put.new.book.tickets c.digest-item.result
    c.loop-digest.invariant.put c.loop-digest-test.true c.digest-item.is c.in_ok-ticket.ticket c.in_ok-ticket.ensures.puts))

pub loop-digest-preserved : goal.loop-digest-preserved
loop-digest-preserved g c = record {
  put = subst (λ (z : List Ticket). PutTo (g.N.Nonces.left c.args.nonces.now) (g.N.Nonces.left c.put.new.nonces) (take (c.loop-digest.digest-index + 1) c.args.digests.now) z c.put.new.book.tickets.waiting) (sym c.in_ok-push.ensures.items)
      (one_put _ _ _ c.args.digests.now c.loop-digest.digest-index c.loop-digest.tickets.items c.loop-digest.book.tickets c.put.new.book.tickets c.digest-item.result
      c.loop-digest.invariant.put c.loop-digest-test.true c.digest-item.is c.in_ok-ticket.ticket c.in_ok-ticket.ensures.puts);
  store = search rules;
  settled = search rules;
  later = search rules;
}

pub returns-clause-puts : goal.returns-clause-puts
returns-clause-puts g c =
    let done = c.loop-digest-test.false in
    all_put _ _ _ c.args.digests.now c.loop-digest.digest-index c.loop-digest.tickets c.loop-digest.book.tickets.waiting (omega (arith, done)) c.loop-digest.invariant.put
