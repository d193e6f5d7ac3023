use Rattle.std.proofs.Common.{take, ◌++◌, List}
use Rattle.ots_store.specs.Held.{Holds}
use Rattle.ots_store.specs.Order.{records_of}
use Rattle.ots_store.specs.Records.{Record}
use Rattle.ots_store.proofs.opening.stage_entries.Given as goal

abbrev pub invariant-loop-entry : goal.invariant-loop-entry
invariant-loop-entry l = (kept flight : List Record) → Holds kept flight l.fn.held → Holds kept (flight ++ records_of (take l.entry-index l.entries)) l.held
