use Rattle.std.proofs.Common.{◌++◌, refl}
use Rattle.ots_examples.specs.OneRound.{entries}
use Rattle.ots_examples.proofs.Cycle.{in_records, in_records_with, is_answered}
use Rattle.ots_examples.proofs.Standing.{image_stands, still_pending}
use Rattle.ots_examples.proofs.laws.an_image_of_them.Goals as goal

pub returns-clause-stands : goal.returns-clause-stands
returns-clause-stands g c = λ before flight. image_stands (before ++ flight)

pub returns-clause-opened : goal.returns-clause-opened
returns-clause-opened g c = λ entries disk. image_stands entries

pub returns-clause-records : goal.returns-clause-records
returns-clause-records g c = λ entries disk. refl

pub returns-clause-cut : goal.returns-clause-cut
returns-clause-cut g c = λ r fits. image_stands (entries r) (in_records r fits)

pub returns-clause-pending : goal.returns-clause-pending
returns-clause-pending g c = still_pending

pub returns-clause-complete : goal.returns-clause-complete
returns-clause-complete g c = λ r disk. is_answered r

pub returns-clause-order : goal.returns-clause-order
returns-clause-order g c = λ r fits. (in_records r fits).order

pub returns-clause-more : goal.returns-clause-more
returns-clause-more g c = λ r commitment fits. in_records_with r fits commitment
