use Rattle.std.proofs.Common.{◌≡◌, take, drop, length, map}
use Rattle.ots_tickets.specs.Ready.{at_index}
use Rattle.ots_tickets.proofs.rounds.set_index.Given as goal

abbrev pub invariant-loop-i : goal.invariant-loop-i
invariant-loop-i l = record {
  long : length l.settled ≡ length l.initial.settled;
  done : take l.i l.settled ≡ map (at_index l.index) (take l.i l.initial.settled);
  rest : drop l.i l.settled ≡ drop l.i l.initial.settled;
}
