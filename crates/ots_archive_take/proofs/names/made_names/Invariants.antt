use Rattle.std.proofs.Common.{◌≡◌, map, take}
use Rattle.ots_archive_steps.specs.Entries.{entries_of}
use Rattle.ots_archive_take.specs.Names.{made_name}
use Rattle.ots_archive_take.proofs.names.made_names.Given as goal

abbrev pub invariant-loop-index : goal.invariant-loop-index
invariant-loop-index l = l.names.items ≡ map (made_name l.fn.into) (take l.index (entries_of l.fn.entries))
