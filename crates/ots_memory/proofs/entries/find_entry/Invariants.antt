use Rattle.std.proofs.Common.{◌≡◌, drop}
use Rattle.std.proofs.Common.{map as map_list}
use Rattle.std.specs.Ordering.{nat_cmp}
use Rattle.std.specs.Cmp.Lexicographic.{slice_cmp}
use Rattle.std.specs.FinMap as map
use Rattle.ots_memory.specs.Entries.{entry_pair}
use Rattle.ots_memory.proofs.entries.find_entry.Given as goal

-- what is sought isn't before here
abbrev pub invariant-loop-i : goal.invariant-loop-i
invariant-loop-i l =
    map.find (slice_cmp nat_cmp) l.name (map_list entry_pair (drop l.i l.entries)) ≡ map.find (slice_cmp nat_cmp) l.name (map_list entry_pair l.entries)
