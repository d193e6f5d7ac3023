use Rattle.std.proofs.Common.{◌≡◌, ◌≤◌}
use Rattle.ots_outputs.specs.Printed.{SinkStays}
use Rattle.ots_store.specs.Order.{records_of}
use Rattle.ots_mirror.specs.Rounds.{held_in}
use Rattle.ots_mirror.proofs.Making.{Reached}
use Rattle.ots_mirror.proofs.rounds.make_rounds.Given as goal

-- So many rounds were made, and none was current.
abbrev pub invariant-loop : goal.invariant-loop
invariant-loop g l =
    let d = g.D.Disk in
    let t = g.T.Dialer in
    let k = g.K.Sink in
    record {
      reached : Reached t.told t.faults d.clock d.images d.images_since l.address l.fn.store.journal.limit (held_in l.fn.store.journal) l.fn.dialer l.dialer l.fn.store.journal l.store.journal
          (k.taken l.fn.out) (k.taken l.out) l.counter;
      known : l.store.records ≡ records_of l.store.journal.entries;
      later : d.faults l.fn.store.journal.disk ≤ d.faults l.store.journal.disk;
      sink : SinkStays k.faults k.same l.fn.out l.out;
    }
