use Rattle.std.proofs.Common.{ℕ, ◌++◌, take, refl, ap, ◌∙◌, arith}
use Rattle.ots_printer.proofs.Pieces.{puts_as, puts_nothing, puts_then}
use Rattle.ots_journal.specs.declared.entry.Entry.{Entry}
use Rattle.ots_store.specs.Order.{records_of}
use Rattle.ots_store.specs.Records.{record_of}
use Rattle.ots_calendar_maintenance.specs.List.{list_text, record_line}
use Rattle.ots_calendar_maintenance.proofs.Listing.{each_at, is_commit, next_commits, next_line, no_commit, no_lines}
use Rattle.ots_calendar_maintenance.proofs.list_command.put_lines.Goals as goal
use Rattle.ots_calendar_maintenance.proofs.list_command.put_lines.Goals.{then-kind-eq-COMMIT, else-kind-eq-COMMIT}

pub loop-i-init : goal.loop-i-init
loop-i-init g c = record { put = puts_as no_lines (puts_nothing g.met.K.Sink.same_refl _); commits = refl; few = omega arith }

pub put_record-requires : goal.put_record-requires
put_record-requires g c =
    each_at c.args.store.now.journal.entries c.loop-i.i (record { kind = c.entry-kind.result.0; payload = c.entry-kind.result.1.now }) c.stands.ensures.are.each c.entry-kind.ensures

pub loop-i-preserved : goal.loop-i-preserved
loop-i-preserved g c =
    let entries = c.args.store.now.journal.entries in
    let i = c.loop-i.i in
    let e : Entry = record { kind = c.entry-kind.result.0; payload = c.entry-kind.result.1.now } in
    let more = next_commits entries i e c.entry-kind.ensures in
    let so_far = c.loop-i.invariant.commits in
    let below = c.loop-i.invariant.few in
    record {
      put = puts_as (ap (λ (n : ℕ). list_text (records_of (take i entries)) ++ record_line n (record_of e)) so_far ∙ next_line entries i e c.entry-kind.ensures)
          (puts_then c.loop-i.invariant.put c.put_record.ensures g.met.K.Sink.same_trans);
      commits = elim c.if-kind-eq-COMMIT.branch [
        | then-kind-eq-COMMIT w ↦ let one = is_commit e w.if-kind-eq-COMMIT.true in let now = w.commits-is in omega arith
        | else-kind-eq-COMMIT w ↦ let none = no_commit e w.if-kind-eq-COMMIT.false in let now = w.commits-is in omega arith
      ];
      few = elim c.if-kind-eq-COMMIT.branch [
        | then-kind-eq-COMMIT w ↦ let now = w.commits-is in omega arith
        | else-kind-eq-COMMIT w ↦ let now = w.commits-is in omega arith
      ];
    }
