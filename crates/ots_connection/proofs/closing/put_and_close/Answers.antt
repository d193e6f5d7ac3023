use Rattle.std.proofs.Common.{◌≡◌, refl, sym, ap, subst, arith}
use Rattle.std.specs.Prelude.{Ok}
use Rattle.ots_shared.specs.Rows.{row}
use Rattle.ots_shared.specs.declared.row.Row.{Row}
use Rattle.ots_store.specs.Store.{StoreTold}
use Rattle.ots_connection.specs.Stamping.{Settles, none, put, busy, no_memory}
use Rattle.ots_connection.proofs.Told.{put_first}
use Rattle.ots_connection.proofs.closing.put_and_close.Goals as goal

pub returns-in-Ok-clause-settles : goal.returns-in-Ok-clause-settles
returns-in-Ok-clause-settles g c =
    let faults = g.D.Disk.faults in
    let old = c.args.book.now in
    let mid = c.put.new.book in
    let new = c.close_round.new.book in
    let same = c.in-Ok.ensures.ticket in
    let one = c.in-Ok.ensures.puts in
    let limit : old.store.journal.limit ≡ mid.store.journal.limit = ap (λ (s : StoreTold g.row.D.Denot). s.journal.limit) (sym c.in-Ok.ensures.store) in
    let settles : Settles c.args.leaf c.args.nonce c.args.service.now.key c.args.service.now.uri c.args.second old.store.journal.limit new.store.records (row faults mid new) c.close_round.result =
    rw (← same.0, ← same.1, limit) c.close_round.ensures.settles in
    put one.room (omega (arith, one.one, c.close_round.ensures.fewer))
    (subst (λ (r : Row). Settles c.args.leaf c.args.nonce c.args.service.now.key c.args.service.now.uri c.args.second old.store.journal.limit new.store.records r c.close_round.result)
    (put_first faults old mid new c.in-Ok.ensures.store one.one) settles)

pub returns-in-Err-Busy-clause-settles : goal.returns-in-Err-Busy-clause-settles
returns-in-Err-Busy-clause-settles g c =
    let p = rw c.in-Err-Busy.field-0-is at c.in-Err-Busy.ensures.puts in
    none (busy p.0 (p.1, ap Ok c.in_words.ensures.due))

pub returns-in-Err-OutOfMemory-clause-settles : goal.returns-in-Err-OutOfMemory-clause-settles
returns-in-Err-OutOfMemory-clause-settles g c =
    let p = rw c.in-Err-OutOfMemory.field-0-is at c.in-Err-OutOfMemory.ensures.puts in
    none (no_memory p.0 p.1 _ refl)
