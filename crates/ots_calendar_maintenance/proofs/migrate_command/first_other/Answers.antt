use Rattle.std.proofs.Common.{ap, length, arith}
use Rattle.std.proofs.lemmas.List.{length-map}
use Rattle.ots_store.specs.Records.{record_of}
use Rattle.ots_calendar_maintenance.proofs.Migrating.{all_same, other_here, same_prefix}
use Rattle.ots_calendar_maintenance.proofs.migrate_command.first_other.Goals as goal

pub returns-then-not-has_entry : goal.returns-then-not-has_entry
returns-then-not-has_entry g c =
    other_here c.args.store.now.journal.entries c.args.old.now c.loop-i.i (record { kind = c.entry-kind.result.0; payload = c.entry-kind.result.1.now }) c.loop-i.invariant c.entry-kind.ensures (c.has_entry.ensures.no c.if-not-has_entry.true)

pub loop-i-preserved : goal.loop-i-preserved
loop-i-preserved g c =
    same_prefix c.args.store.now.journal.entries c.args.old.now c.loop-i.i (record { kind = c.entry-kind.result.0; payload = c.entry-kind.result.1.now }) c.loop-i.invariant c.entry-kind.ensures (c.has_entry.ensures.yes c.if-not-has_entry.false)

pub returns : goal.returns
returns g c =
    let many = c.entries-i-end.ensures.count in
    let same = ap length c.stands.ensures.records in
    let mapped = length-map c.args.store.now.journal.entries record_of in
    let past = c.loop-i-test.false in
    all_same c.args.store.now.journal.entries c.args.old.now c.loop-i.i (omega (arith, many, same, mapped, past)) c.loop-i.invariant
