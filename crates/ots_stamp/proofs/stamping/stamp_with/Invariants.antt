use Rattle.std.proofs.Common.{take, map, length}
use Rattle.ots_asking.specs.Outcome.{AreSound}
use Rattle.ots_asking.specs.Conversation.{Converse}
use Rattle.ots_stamp.specs.Stamping.{to_stamp}
use Rattle.ots_stamp.proofs.stamping.stamp_with.Given as goal

abbrev pub invariant-loop-address : goal.invariant-loop-address
invariant-loop-address g l = record {
  so_far : Converse g.D.Dialer.told g.D.Dialer.faults (take l.address-index (map (to_stamp l.root l.depth) l.calendars)) l.fn.dialer l.dialer l.outcomes.items;
  sound : AreSound (length l.root) l.depth l.outcomes.items;
}
