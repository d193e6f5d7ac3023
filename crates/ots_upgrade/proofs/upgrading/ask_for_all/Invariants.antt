use Rattle.std.proofs.Common.{◌≡◌, length, take}
use Rattle.ots_upgrade.specs.AskedList.{asked_with}
use Rattle.ots_upgrade.specs.Upgrading.{AsksFor}
use Rattle.ots_upgrade.proofs.upgrading.ask_for_all.Given as goal

-- The pairs before were asked for.
abbrev pub invariant-loop-i : goal.invariant-loop-i
invariant-loop-i g l = record {
  one_each : length l.outcomes.items ≡ l.i;
  asked : AsksFor g.D.Dialer.told g.D.Dialer.faults l.calendars (take l.i l.pairs) l.fn.dialer l.dialer (asked_with (take l.i l.pairs) l.outcomes.items);
}
