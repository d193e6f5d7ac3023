use Rattle.std.proofs.Common.{take}
use Rattle.std.specs.List.{flat_map}
use Rattle.ots_printer.specs.Printing.{Puts}
use Rattle.ots_tree.specs.Kept.{beside}
use Rattle.ots_info.specs.Listing.{item_line}
use Rattle.ots_info.proofs.listing.put_items.Given as goal

-- The lines of the items up to here were put.
abbrev pub invariant-loop-at : goal.invariant-loop-at
invariant-loop-at g l =
    Puts g.K.Sink.taken g.K.Sink.faults g.K.Sink.same (flat_map item_line (take l.at (beside l.tokens l.depths))) l.fn.out l.out
