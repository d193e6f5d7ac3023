use Rattle.std.proofs.Common.{◌*◌, ◌+◌, ◌-◌, ◌≤◌, ◌<◌, length, take}
use Rattle.ots_inputs.specs.declared.lines.TheConstants.{ROOM}
use Rattle.ots_inputs.specs.LinesRead.{CameTo}
use Rattle.ots_inputs.proofs.lines.read_lines.Given as goal

-- What came is lines, and the start of one.
abbrev pub invariant-loop-items : goal.invariant-loop-items
invariant-loop-items g l =
    let left = g.S.Source.left in
    let faults = g.S.Source.faults in
    record {
      came : CameTo g.L.Line.is_item g.L.Line.MAX_LINE g.L.Line.MAX_LINES (left l.fn.source) (left l.source) l.items.items (take l.held l.room);
      short : l.held < g.L.Line.MAX_LINE;
      later : faults l.fn.source ≤ faults l.source;
      same : g.S.Source.same l.fn.source l.source;
    }

-- Each turn takes a line, or holds a byte more.
abbrev pub decreases-loop-items : goal.decreases-loop-items
decreases-loop-items g l = ROOM * (g.L.Line.MAX_LINES - length l.items.items) + (ROOM - l.held)
