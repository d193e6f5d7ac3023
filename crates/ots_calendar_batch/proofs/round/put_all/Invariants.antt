use Rattle.std.proofs.Common.{◌≡◌, ◌≤◌, take}
use Rattle.ots_calendar_batch.specs.Round.{PutTo}
use Rattle.ots_calendar_batch.proofs.round.put_all.Given as goal

-- The digests up to here were put.
abbrev pub invariant-loop-digest : goal.invariant-loop-digest
invariant-loop-digest g l =
    let left = g.N.Nonces.left in
    let faults = g.N.Nonces.faults in
    record {
      put : PutTo (left l.fn.nonces) (left l.nonces) (take l.digest-index l.digests) l.tickets.items l.book.tickets.waiting;
      store : l.book.store ≡ l.fn.book.store;
      settled : l.book.tickets.settled ≡ l.fn.book.tickets.settled;
      later : faults l.fn.nonces ≤ faults l.nonces;
    }
