use Rattle.std.proofs.Common.{length}
use Rattle.ots_mirror_pages.proofs.Reading.{ReadTo}
use Rattle.ots_mirror_pages.proofs.page.read_entries.Given as goal

-- The entries so far were read, and what is left comes after them.
abbrev pub invariant-loop-left : goal.invariant-loop-left
invariant-loop-left l = ReadTo l.bytes l.left l.entries

abbrev pub decreases-loop-left : goal.decreases-loop-left
decreases-loop-left l = length l.left
