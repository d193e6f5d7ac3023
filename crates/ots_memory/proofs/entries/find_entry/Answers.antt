use Rattle.ots_memory.proofs.EntryNames.{found_here, passed_here, passed_all}
use Rattle.ots_memory.proofs.entries.find_entry.Goals as goal

pub returns-then-eq : goal.returns-then-eq
returns-then-eq c =
    found_here c.args.name.now c.args.entries.now c.loop-i.i c.index-entries-i.result c.loop-i-test.true c.index-entries-i.is
    (rw c.as_str.ensures.value at c.if-eq.ensures) c.loop-i.invariant

pub returns : goal.returns
returns c = passed_all _ c.args.entries.now c.loop-i.i c.loop-i-test.false c.loop-i.invariant

pub loop-i-preserved : goal.loop-i-preserved
loop-i-preserved c =
    passed_here c.args.name.now c.args.entries.now c.loop-i.i c.index-entries-i.result c.loop-i-test.true c.index-entries-i.is
    (rw c.as_str.ensures.value at c.if-eq.ensures) c.loop-i.invariant
