use Rattle.std.proofs.Common.{refl}
use Rattle.ots_disk.specs.Moments.{if_told}
use Rattle.ots_journal.proofs.Refreshing.{told_at}
use Rattle.ots_journal.proofs.Standing.{keeps_sure}
use Rattle.ots_journal.proofs.Unique.{not_refused}
use Rattle.ots_journal.proofs.journal.Journal.open.Goals as goal

pub returns-in-Ok-clause-images : goal.returns-in-Ok-clause-images
returns-in-Ok-clause-images g c = keeps_sure (g.D.Disk.images c.find_journal.new.disk) _ _ _ _ c.in-Ok.ensures.keeps refl

pub returns-in-Err-clause-accepts : goal.returns-in-Err-clause-accepts
returns-in-Err-clause-accepts g c entries =
    let told = g.D.Disk.bytes c.args.disk in
    if_told told _ (λ b is stands of. not_refused c.args.limit b entries c.in-Err.why stands (told_at told _ b is c.in-Err.ensures.why) of)
