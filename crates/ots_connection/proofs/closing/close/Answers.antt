use Rattle.std.proofs.Common.{◌≡◌, ℕ, length, ap, subst}
use Rattle.std.specs.Prelude.{Option, Result, Ok, Err}
use Rattle.ots_calendar.specs.Rounds.{Closes}
use Rattle.ots_journal.specs.declared.errors.AppendError.{AppendError}
use Rattle.ots_journal.specs.declared.errors.AppendError.TheVariants.{Full}
use Rattle.ots_connection.proofs.Closes.{closes_some, closes_full, closes_fits, closed_kept, closed_of, closes_more}
use Rattle.ots_connection.proofs.closing.close.Goals as goal

pub returns-in-Ok-clause-closed : goal.returns-in-Ok-clause-closed
returns-in-Ok-clause-closed g c =
    let d = g.D.Disk in
    let old = c.args.book.now in
    let new = c.close.new.self in
    let key = c.args.service.now.key in
    closed_of key c.args.second old new c.in-Ok.field-0
    (λ none. closes_some d.bytes d.clock d.images_since key c.args.second old new c.requires
    (subst (λ (o : Option ℕ). Closes d.bytes d.clock d.images_since key c.args.second old new (Ok o)) none c.in-Ok.ensures.closes))
    c.in-Ok.ensures.settled c.in-Ok.ensures.index

pub returns-in-Err-clause-full : goal.returns-in-Err-clause-full
returns-in-Err-clause-full g c = λ need limit is.
    let d = g.D.Disk in
    let same : c.in-Err.why ≡ Full need limit = cc in
    closes_full d.bytes d.clock d.images_since c.args.service.now.key c.args.second c.args.book.now c.close.new.self need limit
    (subst (λ (r : Result (Option ℕ) AppendError). Closes d.bytes d.clock d.images_since c.args.service.now.key c.args.second c.args.book.now c.close.new.self r) (ap Err same) c.in-Err.ensures.closes)

pub returns-in-Ok-clause-kept : goal.returns-in-Ok-clause-kept
returns-in-Ok-clause-kept g c = closed_kept c.args.service.now.key c.args.second c.args.book.now c.close.new.self (ap length c.in-Ok.ensures.waiting) (returns-in-Ok-clause-closed g c)

pub returns-in-Ok-clause-fits : goal.returns-in-Ok-clause-fits
returns-in-Ok-clause-fits g c =
    let d = g.D.Disk in
    closes_fits d.bytes d.clock d.images_since c.args.service.now.key c.args.second c.args.book.now c.close.new.self c.in-Ok.field-0 c.requires c.in-Ok.ensures.closes

pub returns-in-Ok-clause-more : goal.returns-in-Ok-clause-more
returns-in-Ok-clause-more g c =
    let d = g.D.Disk in
    closes_more d.bytes d.clock d.images_since c.args.service.now.key c.args.second c.args.book.now c.close.new.self c.in-Ok.field-0 c.requires (rw c.store.ensures at c.stands.ensures.records) c.in-Ok.ensures.records c.in-Ok.ensures.closes
