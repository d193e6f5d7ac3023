use Rattle.std.proofs.Common.{arith}
use Rattle.ots_calendar.proofs.Asked.{covered_within}
use Rattle.ots_calendar.proofs.book.next_tip.Goals as goal

pub overflow_sub-count : goal.overflow_sub-count
overflow_sub-count g c =
    let s = c.args.store.now in
    omega (arith, c.covered-first.ensures, c.commits.ensures.count, covered_within s.records s.journal.entries c.stands.ensures.records c.stands.ensures.are)

pub returns-then-count-eq0-clause-next : goal.returns-then-count-eq0-clause-next
returns-then-count-eq0-clause-next g c =
    let s = c.args.store.now in
    omega (arith, c.covered-first.ensures, c.commits.ensures.count, covered_within s.records s.journal.entries c.stands.ensures.records c.stands.ensures.are)
