use Rattle.std.proofs.Common.{[]}
use Rattle.ots_store.specs.Order.{commits_of, records_of}
use Rattle.ots_calendar.proofs.Standing.{withdraw_stands}
use Rattle.ots_calendar.proofs.book.Book.withdraw.Goals as goal

pub invariant_of-self : goal.invariant_of-self
invariant_of-self g c =
    record {
      records = c.self.invariant.records;
      kept = c.self.invariant.kept;
      settled = withdraw_stands (commits_of (records_of c.self.inside.store.journal.entries)) c.args.ticket.now [] c.self.inside.tickets c.withdraw.new.self c.self.invariant.settled c.withdraw.result c.withdraw.ensures;
    }
