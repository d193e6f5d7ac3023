use Rattle.std.proofs.Common.{◌≡◌, map}
use Rattle.std.specs.Map.Iter.{deref_pair}
use Rattle.ots_archive_counts.specs.Counts.{counted}
use Rattle.ots_archive_counts.specs.inner.Tally.{entry}
use Rattle.ots_archive_counts.proofs.counting.counts.Given as goal

-- The entries up to here are listed.
abbrev pub invariant-loop-address : goal.invariant-loop-address
invariant-loop-address l = map counted l.list.items ≡ map entry (map deref_pair l.yielded)
