use Rattle.ots_archive_taken.proofs.DraftPairs.{draft_pairs}
use Rattle.ots_archive_taken.proofs.laws.draft_pairs.Goals as goal

pub returns : goal.returns
returns c = draft_pairs
