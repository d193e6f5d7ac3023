use Rattle.std.proofs.Common.{◌≡◌, ◌≤◌, length, sym, ap, ◌∙◌, arith}
use Rattle.ots_calendar.specs.Book.{BookTold}
use Rattle.ots_shared.specs.Records.{StartsWith}
use Rattle.ots_shared.specs.Rows.{row}
use Rattle.ots_connection.specs.Stamping.{PutsAndSettles}
use Rattle.ots_connection.proofs.Held.{one_hold}
use Rattle.ots_connection.proofs.stamping.put_again.Goals as goal

pub returns-clause-settles : goal.returns-clause-settles
returns-clause-settles g c =
    let faults = g.D.Disk.faults in
    let h = c.hold-held.result in
    let left = c.put_and_close-due.new.book in
    let goes = c.put_and_close-due.ensures.goes in
    let same : h.found ≡ c.book.result.now = c.hold-held.ensures.found ∙ sym c.book.ensures.value in
    let limit : c.args.shared.now.limit ≡ c.book.result.now.store.journal.limit =
    sym c.hold-held.ensures.limit ∙ ap (λ (b : BookTold g.row.D.Denot). b.store.journal.limit) (sym c.book.ensures.value) in
    let more : StartsWith left.store.records h.book.store.records = rw (← c.book.ensures.value) goes.records in
    let fewer : length left.tickets.waiting ≤ length h.found.tickets.waiting = rw same goes.waiting in
    let settles : PutsAndSettles c.args.leaf c.args.nonce c.args.service.now.key c.args.service.now.uri c.args.second c.args.shared.now.limit c.release.new.pass.seen (row faults h.found left) c.put_and_close-due.result =
    rw (limit, c.release.ensures.seen, same) c.put_and_close-due.ensures.settles in (
      row faults h.found left,
      one_hold faults c.args.pass.now c.hold-held.new.pass c.release.new.pass h left c.hold-held.ensures.rest c.hold-held.ensures.seat c.hold-held.ensures.seen
          c.release.ensures.seat c.release.ensures.seen c.release.ensures.told c.release.ensures.holds c.release.ensures.made more (omega arith),
      settles,
    )
