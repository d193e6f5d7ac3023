use Rattle.ots_archive_taken.proofs.As.{asks_root, as_stamped, stamped_as}
use Rattle.ots_archive_taken.proofs.laws.taken_as_stamped.Goals as goal

pub returns-clause-asks : goal.returns-clause-asks
returns-clause-asks c = λ targets i t addresses proof pairs among. asks_root targets i t addresses proof among pairs

pub returns-clause-made : goal.returns-clause-made
returns-clause-made c = λ answers targets i t addresses proof made least complete among. as_stamped targets i t addresses proof among answers least made complete

pub returns-clause-makes : goal.returns-clause-makes
returns-clause-makes c = λ answers targets i t addresses proof made least complete trees among. stamped_as targets i t addresses proof among answers least made complete trees
