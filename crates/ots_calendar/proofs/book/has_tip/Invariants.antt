use Rattle.std.proofs.Common.{take}
use Rattle.ots_store.specs.Order.{HasSpan}
use Rattle.ots_calendar.proofs.book.has_tip.Given as goal

abbrev pub invariant-loop-stored : goal.invariant-loop-stored
invariant-loop-stored l = HasSpan l.tip.first l.tip.count (take l.stored-index l.tips) → ⊥
