use Rattle.std.proofs.Common.{◌++◌}
use Rattle.ots_calendar.proofs.WholeWay.{complete_after, pending_after}
use Rattle.ots_calendar.proofs.laws.answers_after_a_crash.Goals as goal

pub returns-clause-complete : goal.returns-clause-complete
returns-clause-complete g c = λ image before flight book commitment tree stands opened records.
    complete_after before flight book.store.journal.entries book.store.records (c.bytes_stand_once.ensures image (before ++ flight) book.store.journal.entries stands opened) records
    commitment tree

pub returns-clause-pending : goal.returns-clause-pending
returns-clause-pending g c = λ image before flight book commitment stands opened records.
    pending_after before flight book.store.journal.entries book.store.records (c.bytes_stand_once.ensures image (before ++ flight) book.store.journal.entries stands opened) records
    commitment
