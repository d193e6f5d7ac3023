use Rattle.std.proofs.Common.{◌≤◌, ◌-◌, [], length, take}
use Rattle.ots_line_reader.specs.declared.reader.TheConstants.{ROOM}
use Rattle.ots_outside.specs.Streams.{Gives}
use Rattle.ots_line_reader.specs.Lines.{NoFeed, to_come}
use Rattle.ots_line_reader.proofs.reader.LineReader.advance.Given as goal

-- What was read is held, and no line feed was found yet.
abbrev pub invariant-loop-searched : goal.invariant-loop-searched
invariant-loop-searched g l =
    let left = g.S.Source.left in
    let faults = g.S.Source.faults in
    record {
      gave : Gives (to_come l.fn.self (left l.fn.source)) (to_come l.self (left l.source)) [];
      within : l.searched ≤ length l.self.held;
      searched : NoFeed (take l.searched l.self.held);
      later : faults l.fn.source ≤ faults l.source;
      same : g.S.Source.same l.fn.source l.source;
    }

-- Each turn holds a byte more.
abbrev pub decreases-loop-searched : goal.decreases-loop-searched
decreases-loop-searched g l = ROOM - length l.self.held
