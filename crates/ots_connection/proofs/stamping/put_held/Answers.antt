use Rattle.std.proofs.Common.{◌≡◌, sym, ◌∙◌}
use Rattle.ots_shared.proofs.Begins.{starts_self}
use Rattle.ots_shared.specs.Records.{StartsWith}
use Rattle.ots_shared.specs.Rows.{row}
use Rattle.ots_connection.specs.Putting.{Puts}
use Rattle.ots_connection.proofs.Held.{one_hold, puts_one}
use Rattle.ots_connection.proofs.stamping.put_held.Goals as goal

pub release-requires-clause-records : goal.release-requires-clause-records
release-requires-clause-records g c = rw (c.put-ticket.ensures.store, c.book.ensures.value, c.hold-held.ensures.found) (starts_self c.hold-held.result.book.store.records)

pub returns-clause-puts : goal.returns-clause-puts
returns-clause-puts g c =
    let h = c.hold-held.result in
    let left = c.put-ticket.new.book in
    let same : h.found ≡ c.book.result.now = c.hold-held.ensures.found ∙ sym c.book.ensures.value in
    let puts : Puts (row g.D.Disk.faults h.found left) c.put-ticket.result = rw same c.put-ticket.ensures.puts in
    let more : StartsWith left.store.records h.book.store.records = rw (c.put-ticket.ensures.store, c.book.ensures.value) (starts_self h.book.store.records) in (
      row g.D.Disk.faults h.found left,
      one_hold g.D.Disk.faults c.args.pass.now c.hold-held.new.pass c.release.new.pass h left c.hold-held.ensures.rest c.hold-held.ensures.seat c.hold-held.ensures.seen
          c.release.ensures.seat c.release.ensures.seen c.release.ensures.told c.release.ensures.holds c.release.ensures.made more (puts_one (row g.D.Disk.faults h.found left) c.put-ticket.result puts),
      puts,
    )
