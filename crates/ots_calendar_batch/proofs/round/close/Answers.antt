use Rattle.std.proofs.Common.{◌≡◌, ◌+◌, List, ℕ, length, subst}
use Rattle.std.specs.Prelude.{Option, Ok, IfSome}
use Rattle.ots_base.specs.Cause.{Rose}
use Rattle.ots_journal.specs.Image.{Stands}
use Rattle.ots_store.specs.Order.{commits_of}
use Rattle.ots_calendar.specs.Rounds.{Closes}
use Rattle.ots_calendar_batch.proofs.Rounding.{close_stored}
use Rattle.ots_calendar_batch.proofs.round.close.Goals as goal

pub returns-in-Ok-Some-clause-closes : goal.returns-in-Ok-Some-clause-closes
returns-in-Ok-Some-clause-closes g c =
    let d = g.D.Disk in
    let old = c.args.book.now in
    let new = c.close.new.self in
    let disk = new.store.journal.disk in
    let is = c.in-Ok-Some.field-0-is in
    close_stored d.bytes d.clock d.images d.images_since (Rose (d.faults old.store.journal.disk) (d.faults disk)) c.args.key.now c.args.second old new c.requires.sure c.in-Ok-Some.index c.requires.settled
    (subst (λ (o : Option ℕ). Closes d.bytes d.clock d.images_since c.args.key.now c.args.second old new (Ok o)) is c.in-Ok-Some.ensures.closes)
    (subst (λ (o : Option ℕ). IfSome o (λ _. (f : List ℕ) → d.images disk f → Stands f new.store.journal.entries)) is c.in-Ok-Some.ensures.acknowledged)
    (subst (λ (o : Option ℕ). IfSome o (λ i. i + 1 ≡ length (commits_of new.store.records))) is c.in-Ok-Some.ensures.index)
    c.in-Ok-Some.ensures.records
