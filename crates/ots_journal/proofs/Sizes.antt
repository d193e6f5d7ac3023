-- How many entries a file of some length can have.
use Rattle.std.proofs.Common.{◌≤◌, ◌*◌, List, [], ◌∷◌, length, arith, length-append}
use Rattle.std.specs.List.{flat_map, AllByRecursion}
use Rattle.ots_journal.specs.Image.{magic, entry_bytes, entries_bytes, group_bytes, FitsEntry, FitsGroup, entries_of, prefix}
use Rattle.ots_journal.specs.declared.entry.Entry.{Entry}
use Rattle.ots_journal.proofs.Groups.{length-entry, length-group_body}

-- each entry takes 49 bytes or more
entries_take : (es : List Entry) → AllByRecursion FitsEntry es → 49 * length es ≤ length (entries_bytes es)
entries_take [] fit = omega arith
entries_take (e ∷ es) fit = omega (arith, length-append (entry_bytes e) (entries_bytes es), length-entry e, fit.0.0, entries_take es fit.1)

groups_take : (groups : List (List Entry)) → AllByRecursion FitsGroup groups → 49 * length (entries_of groups) ≤ length (flat_map group_bytes groups)
groups_take [] fit = omega arith
groups_take (g ∷ groups) fit =
    omega (arith, length-append g (entries_of groups), length-append (group_bytes g) (flat_map group_bytes groups), length-group_body g, entries_take g fit.0.payloads, groups_take groups fit.1)

pub few_entries : (groups : List (List Entry)) → AllByRecursion FitsGroup groups → 49 * length (entries_of groups) ≤ length (prefix groups)
few_entries groups fit = omega (arith, length-append magic (flat_map group_bytes groups), groups_take groups fit)
