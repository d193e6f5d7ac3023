use Rattle.ots_archive_ask.proofs.OneTotal.{never_both, one_sheet}
use Rattle.ots_archive_ask.proofs.laws.one_sheet.Goals as goal

pub returns-clause-sheet : goal.returns-clause-sheet
returns-clause-sheet c = one_sheet

pub returns-clause-never_both : goal.returns-clause-never_both
returns-clause-never_both c = never_both
