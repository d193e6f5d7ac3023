use Rattle.std.proofs.Common.{◌++◌, drop, length, take}
use Rattle.ots_gateway.proofs.Answering.{IsAsked, answers_none, answers_tree, is_asked}
use Rattle.ots_gateway.proofs.answer.ask.Given.{Over}
use Rattle.ots_gateway.proofs.answer.ask.Goals as goal
use Rattle.ots_gateway.proofs.answer.ask.Goals.{After-take_trees-taken}

asked : (g : Over) (c : After-take_trees-taken g) → IsAsked g.T.Dialer.told g.T.Dialer.faults c.args.calendars.now c.args.dialer.now c.ask.new.dialer c.args.leaves.items
    (take c.in_ok-outcomes.outcomes.len (c.take_trees-taken.new.outcomes ++ drop (length c.take_trees-taken.new.outcomes) c.in_ok-outcomes.outcomes.items)) c.take_trees-taken.result
asked g c =
    is_asked g.T.Dialer.told g.T.Dialer.faults c.args.calendars.now c.args.dialer.now c.ask.new.dialer c.in_ok-ways.ways c.args.leaves.items c.depth.result c.way_bytes.result
    c.in_ok-outcomes.outcomes.len c.take_trees-taken.result c.in_ok-outcomes.outcomes.items c.as_mut_slice.result.now c.take_trees-taken.new.outcomes
    c.in_ok-ways.ensures c.depth.ensures.depth c.way_bytes.ensures.bytes c.way_bytes.ensures.most c.in_ok-outcomes.ensures.asked c.in_ok-outcomes.ensures.sound
    c.in_ok-outcomes.outcomes.ok.0 c.as_mut_slice.ensures.value c.take_trees-taken.auto.outcomes c.take_trees-taken.ensures.outcomes c.take_trees-taken.ensures.count

pub returns-then-taken-min : goal.returns-then-taken-min
returns-then-taken-min g c =
    answers_none g.T.Dialer.told g.T.Dialer.faults c.args.calendars.now c.args.dialer.now c.ask.new.dialer c.args.min c.args.leaves.items _ _ c.requires.hashes
    (asked g (goal.at.returns-then-taken-min g c).After-take_trees-taken) c.if-taken-min.true

pub returns : goal.returns
returns g c =
    answers_tree g.T.Dialer.told g.T.Dialer.faults c.args.calendars.now c.args.dialer.now c.ask.new.dialer c.args.min c.args.leaves.items _ c.deref.result.now _
    c.in_ok-tree.field-0 _ c.requires.hashes (asked g (goal.at.returns g c).After-take_trees-taken) c.if-taken-min.false c.in_ok-ways.ensures c.deref.ensures.value c.in-Some.is
    c.in_ok-tree.ensures.gathered
