use Rattle.std.proofs.Common.{◌≡◌, length, rules}
use Rattle.ots_canon.proofs.Writing.{writing_begin, writing_next, writing_falls, writing_end, frame_popped, none_left}
use Rattle.ots_canon.proofs.merging.write_node.Goals as goal

pub loop-frame-init : goal.loop-frame-init
loop-frame-init c = writing_begin c.new-frames.ensures.items c.new-written.ensures.items c.in_ok-open.ensures c.requires.items c.requires.some

pub write_item-requires-clause-frame : goal.write_item-requires-clause-frame
write_item-requires-clause-frame c = frame_popped c.pop.new.self.items c.in-Some.frame c.in-Some.ensures.items c.loop-frame.invariant

pub loop-frame-preserved : goal.loop-frame-preserved
loop-frame-preserved c = writing_next c.in-Some.ensures.items c.in_ok-write_item.ensures c.loop-frame.invariant

pub loop-frame-smaller : goal.loop-frame-smaller
loop-frame-smaller c = writing_falls c.in-Some.ensures.items c.in_ok-write_item.ensures

pub returns : goal.returns
returns c =
    let none : length c.loop-frame.frames.items ≡ 0 = (let h = c.in_default.ensures.cases in search rules) in
    writing_end (none_left c.loop-frame.frames.items none) c.loop-frame.invariant
