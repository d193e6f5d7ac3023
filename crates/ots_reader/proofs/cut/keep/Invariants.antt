use Rattle.std.proofs.Common.{◌≡◌, ◌≤◌, ◌-◌, ◌++◌, take, length, vec_capacity}
use Rattle.ots_reader.proofs.cut.keep.Given as goal

abbrev pub invariant-loop-count : goal.invariant-loop-count
invariant-loop-count l = (l.kept.items ≡ l.fn.kept.items ++ take l.count l.bytes) × (vec_capacity l.kept ≡ vec_capacity l.fn.kept) × (l.count ≤ length l.bytes)

abbrev pub decreases-loop-count : goal.decreases-loop-count
decreases-loop-count l = length l.bytes - l.count
