use Rattle.ots_archive_draft.proofs.Kept.{Taken}
use Rattle.ots_archive_draft.proofs.files.digests_of_lines.Given as goal

abbrev pub invariant-loop-index : goal.invariant-loop-index
invariant-loop-index l = Taken l.fn.sums l.index l.digests.items
