use Rattle.std.proofs.Common.{take}
use Rattle.ots_store.specs.Order.{HasSpan, tips_of, records_of}
use Rattle.ots_store.proofs.tips.has_tip_in.Given as goal

abbrev pub invariant-loop-entry : goal.invariant-loop-entry
invariant-loop-entry l = HasSpan l.span.first l.span.count (tips_of (records_of (take l.entry-index l.group))) → ⊥
