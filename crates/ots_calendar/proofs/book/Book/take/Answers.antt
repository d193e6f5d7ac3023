use Rattle.std.proofs.Common.{List, sym, subst}
use Rattle.ots_store.specs.Order.{commits_of, records_of}
use Rattle.ots_store.specs.Records.{Record}
use Rattle.ots_calendar.specs.Book.{AllStand}
use Rattle.ots_calendar.proofs.Standing.{take_stands, all_given}
use Rattle.ots_calendar.proofs.book.Book.take.Goals as goal

pub invariant_of-self : goal.invariant_of-self
invariant_of-self g c =
    let s = c.self.inside.store in
    record {
      records = c.self.invariant.records;
      kept = c.self.invariant.kept;
      settled = take_stands (commits_of (records_of s.journal.entries)) c.args.ticket.now c.args.uri.now c.self.inside.tickets c.take.new.self c.self.invariant.settled c.take.result c.take.ensures.takes c.take.ensures.err;
    }

pub returns-clause-gives : goal.returns-clause-gives
returns-clause-gives g c =
    let s = c.self.inside.store in
    let all : AllStand (commits_of s.records) c.self.inside.tickets.settled = subst (λ (l : List Record). AllStand (commits_of l) c.self.inside.tickets.settled) (sym c.stands.ensures.records) c.self.invariant.settled in
    all_given s.records c.args.ticket.now c.args.uri.now c.self.inside.tickets c.take.new.self all c.take.result c.take.ensures.takes c.take.ensures.leads
