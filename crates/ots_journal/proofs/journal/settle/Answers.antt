use Rattle.std.proofs.Common.{◌≡◌, ◌+◌, [], List, true, sym, subst}
use Rattle.ots_journal.specs.Journal.{Keeps, size_with}
use Rattle.ots_journal.specs.declared.entry.Entry.{Entry}
use Rattle.ots_journal.proofs.Staging.{staged_next}
use Rattle.ots_journal.proofs.journal.settle.Goals as goal

pub returns-in-Ok-clause-ok : goal.returns-in-Ok-clause-ok
returns-in-Ok-clause-ok g c =
    let old = c.args.stored.now in
    let new = c.keep.new.self in
    let next : new.size + 1 ≡ size_with old.size old.flight = staged_next old.size new.size old.staged old.flight c.requires.staged c.keep.ensures.size in
    record {
      first_index = c.count-first.ensures;
      entries = c.keep.ensures.entries;
      flight = c.keep.ensures.flight;
      size = next;
      staged = c.keep.ensures.staged;
      spare_entries = c.keep.ensures.spare_entries;
      spare_bytes = c.keep.ensures.spare_bytes;
      keeps = subst (λ (es : List Entry). Keeps (g.D.Disk.images c.put_staged.new.disk) es [] true new.size) (sym c.keep.ensures.entries) (c.in-Ok.ensures.put new.size next);
    }
