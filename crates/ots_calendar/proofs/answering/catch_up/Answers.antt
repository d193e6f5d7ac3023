use Rattle.std.proofs.Common.{arith}
use Rattle.ots_calendar.proofs.Asked.{covered_within}
use Rattle.ots_calendar.proofs.answering.catch_up.Goals as goal

pub keep_newest-requires-clause-begins : goal.keep_newest-requires-clause-begins
keep_newest-requires-clause-begins g c =
    let s = c.args.store.now in
    omega (arith, covered_within s.records s.journal.entries c.stands.ensures.records c.stands.ensures.are)
