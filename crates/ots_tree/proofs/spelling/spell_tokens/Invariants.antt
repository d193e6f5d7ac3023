use Rattle.std.proofs.Common.{◌≤◌, length, take}
use Rattle.ots_tree.specs.Wire.{spelled}
use Rattle.ots_outside.specs.Buffered.{Buffered}
use Rattle.ots_tree.proofs.spelling.spell_tokens.Given as goal

-- The tokens up to here are spelled in what the sink has taken and the filled part holds.
abbrev pub invariant-loop-token : goal.invariant-loop-token
invariant-loop-token g l =
    let taken = g.K.Sink.taken in
    let faults = g.K.Sink.faults in
    record {
      in_range : l.filled ≤ length l.buffer;
      gathered : Buffered (taken l.fn.sink) (taken l.sink) (spelled (take l.token-index l.tokens)) (take l.filled l.buffer);
      later : faults l.fn.sink ≤ faults l.sink;
      same : g.K.Sink.same l.fn.sink l.sink;
    }
