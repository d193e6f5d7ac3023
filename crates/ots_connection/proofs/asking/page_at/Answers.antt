use Rattle.ots_shared.proofs.Begins.{starts_self}
use Rattle.ots_connection.proofs.asking.page_at.Goals as goal

pub release-requires-clause-records : goal.release-requires-clause-records
release-requires-clause-records g c = rw (c.book.ensures.value, c.hold-held.ensures.found) (starts_self c.hold-held.result.book.store.records)

pub returns-clause-due : goal.returns-clause-due
returns-clause-due g c = rw c.release.ensures.seen c.copy_page-due.ensures.due
