use Rattle.std.proofs.Common.{arith}
use Rattle.ots_archive_steps.specs.Entries.{entries_of, entry_as}
use Rattle.ots_archive_ask.proofs.Turns.{gathers_ends, gathers_next, gathers_none, room}
use Rattle.ots_archive_ask.proofs.gathering.gather.Goals as goal

pub loop-index-init : goal.loop-index-init
loop-index-init g c = gathers_none c.args.urls.items c.args.all c.new.result _ c.new.ensures.urls c.new.ensures.none

pub returns-in-Err-clause-ends : goal.returns-in-Err-clause-ends
returns-in-Err-clause-ends g c =
    gathers_ends c.args.urls.items c.args.all (entries_of c.args.entries.now) c.loop-index.index (entry_as c.get.result) c.get.ensures (omega (arith, c.loop-index-test.true, c.len-index-end.ensures)) _ _ _ _
    c.loop-index.invariant c.in-Err.status c.in-Err.ensures.ends

pub loop-index-preserved : goal.loop-index-preserved
loop-index-preserved g c =
    let adds = c.in-Ok.ensures.adds in
    gathers_next c.args.urls.items c.args.all (entries_of c.args.entries.now) c.loop-index.index (entry_as c.get.result) c.get.ensures (omega (arith, c.loop-index-test.true, c.len-index-end.ensures)) _ _ _ _
    c.loop-index.invariant c.add_entry.new.gathered adds.0 adds.1 adds.2 c.in-Ok.ensures.few

pub add_entry-requires : goal.add_entry-requires
add_entry-requires g c =
    room c.args.urls.items c.args.all (entries_of c.args.entries.now) c.loop-index.index _ _ _ (omega (arith, c.loop-index-test.true, c.len-index-end.ensures)) c.requires.few c.loop-index.invariant
