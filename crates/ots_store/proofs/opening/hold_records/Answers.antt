use Rattle.std.proofs.Common.{◌≡◌, ◌∙◌, ◌++◌, ◌∷◌, List, [], subst, sym, ap, take, get_or, arith, ◌<◌, length}
use Rattle.ots_journal.specs.declared.entry.Entry.{Entry}
use Rattle.ots_store.specs.Opening.{HeldTo, HeldNext}
use Rattle.ots_store.specs.Order.{records_of}
use Rattle.ots_store.specs.Records.{Record, IsRecord, record_of}
use Rattle.ots_store.proofs.Opened.{each_more, get_is, records_more}
use Rattle.std.proofs.lemmas.List.{length-take, take_all}
use Rattle.ots_store.specs.Held.{Holds}
use Rattle.ots_store.proofs.Recorded.{entry}
use Rattle.ots_store.proofs.Storing.{entries_few}
use Rattle.ots_store.proofs.opening.hold_records.Goals as goal

pub loop-i-preserved : goal.loop-i-preserved
loop-i-preserved g c =
    let entries = c.args.journal.now.entries in
    let i = c.loop-i.i in
    let e = entry c.entry-kind.result.0 c.entry-kind.result.1.now in
    let lt = (let there : c.loop-i.i < length entries = omega (arith, c.count-i-end.ensures.count, c.loop-i-test.true) in there) in
    let same : e ≡ get_or entries i e = get_is entries i e e lt c.entry-kind.ensures in
    let next : HeldNext (records_of (take i entries)) e c.hold_next.new.lists c.hold_next.new.progress = c.in_ok-hold_next.ensures.yes c.if-not-branch.false (records_of (take i entries)) c.loop-i.invariant.held in
    record {
      each = each_more entries i e lt c.loop-i.invariant.each (subst IsRecord same next.is);
      held = subst (λ (l : List Record). HeldTo l c.hold_next.new.lists c.hold_next.new.progress)
          (ap (λ (x : Entry). records_of (take i entries) ++ record_of x ∷ []) same ∙ sym (records_more entries i e lt)) next.now;
      few = omega (arith, c.in_ok-hold_next.ensures.few, c.loop-i.invariant.few);
    }

pub of-requires-clause-few : goal.of-requires-clause-few
of-requires-clause-few g c =
    let i = c.loop-i.i in
    let prefix = take i c.args.journal.now.entries in
    let held = c.loop-i.invariant.held.holds.commitments in
    omega (arith, entries_few prefix, ap length held, length-take i c.args.journal.now.entries, c.count-i-end.ensures.count, c.count-i-end.ensures.bound)

pub returns-clause-ok : goal.returns-clause-ok
returns-clause-ok g c =
    let entries = c.args.journal.now.entries in
    let whole : take c.loop-i.i entries ≡ entries = take_all c.loop-i.i entries (omega (arith, c.count-i-end.ensures.count, c.loop-i-test.false)) in
    subst (λ (l : List Entry). Holds (records_of l) [] c.in_ok-of.field-0) whole (c.in_ok-of.ensures (records_of (take c.loop-i.i entries)) [] c.loop-i.invariant.held.holds)
