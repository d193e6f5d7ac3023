use Rattle.std.proofs.Common.{◌≡◌, ◌<◌, ◌∷◌, [], List, ℕ, length, refl, ap, subst, arith}
use Rattle.std.specs.Prelude.{Result, Ok, Err}
use Rattle.ots_journal.specs.declared.errors.AppendError.{AppendError}
use Rattle.ots_journal.specs.declared.errors.AppendError.TheVariants.{OutOfMemory}
use Rattle.ots_journal.specs.Journal.{JournalTold}
use Rattle.ots_journal.specs.Within.{StaysWithin, joined_within}
use Rattle.ots_store.specs.Store.{Added}
use Rattle.ots_store.proofs.Adding.{added_ok, added_err, adds_after}
use Rattle.ots_store.proofs.Recorded.{entry}
use Rattle.ots_store.proofs.store.Store.add_commit.Goals as goal

pub returns-in-Ok-add-clause-adds : goal.returns-in-Ok-add-clause-adds
returns-in-Ok-add-clause-adds g c =
    let d = g.D.Disk in
    let roomy = c.reserve.new.self.journal in
    let mid = c.refresh.new.self.journal in
    let new = c.add.new.self.journal in
    let result : Result ℕ AppendError = Ok c.commits-index.result in
    let added : Added d.clock d.images_since mid new (entry 1 c.args.commitment.now ∷ []) c.add.result =
    subst (λ (p : List ℕ). Added d.clock d.images_since mid new (entry 1 p ∷ []) c.add.result) c.as_slice.ensures c.add.ensures.added in
    adds_after d.bytes d.clock d.images_since c.args.self.now.journal roomy (entry 1 c.args.commitment.now ∷ []) c.reserve.ensures.room mid new result c.in-Ok-refresh.ensures.ok c.refresh.ensures.any_moment
    (added_ok d.clock d.images_since mid new (entry 1 c.args.commitment.now ∷ []) c.add.result result c.in-Ok-add.field-0 c.commits-index.result c.in-Ok-add.is refl added) (λ is. absurd (cc))

pub returns-in-Err-add-clause-adds : goal.returns-in-Err-add-clause-adds
returns-in-Err-add-clause-adds g c =
    let d = g.D.Disk in
    let roomy = c.reserve.new.self.journal in
    let mid = c.refresh.new.self.journal in
    let new = c.add.new.self.journal in
    let result : Result ℕ AppendError = Err c.in-Err-add.why in
    let added : Added d.clock d.images_since mid new (entry 1 c.args.commitment.now ∷ []) c.add.result =
    subst (λ (p : List ℕ). Added d.clock d.images_since mid new (entry 1 p ∷ []) c.add.result) c.as_slice.ensures c.add.ensures.added in
    let spare : 0 < c.refresh.new.self.spare = omega (arith, c.in-Ok.ensures.ok, c.refresh.ensures.spare) in
    let out : result ≡ Err OutOfMemory → c.add.result ≡ Err OutOfMemory = (λ is. cc) in
    adds_after d.bytes d.clock d.images_since c.args.self.now.journal roomy (entry 1 c.args.commitment.now ∷ []) c.reserve.ensures.room mid new result c.in-Ok-refresh.ensures.ok c.refresh.ensures.any_moment
    (added_err d.clock d.images_since mid new (entry 1 c.args.commitment.now ∷ []) c.add.result result c.in-Err-add.why c.in-Err-add.is refl added)
    (λ is. c.add.ensures.not_refused spare (λ three. absurd (omega arith)) (omega (arith, ap length c.as_slice.ensures)) (out is))

-- the journal with its room has the limit and the disk of the one before
pub returns-in-Ok-add-clause-within : goal.returns-in-Ok-add-clause-within
returns-in-Ok-add-clause-within g c =
    let d = g.D.Disk in
    let roomy = c.reserve.new.self.journal in
    let new = c.add.new.self.journal in
    subst (λ (j : JournalTold g.row.D.Denot). StaysWithin d.clock d.images_since j new) c.reserve.ensures.room.same
    (joined_within d.clock d.images_since roomy c.refresh.new.self.journal new c.refresh.ensures.within c.in-Ok-refresh.ensures.ok.limit c.add.ensures.within)

pub returns-in-Err-add-clause-within : goal.returns-in-Err-add-clause-within
returns-in-Err-add-clause-within g c =
    let d = g.D.Disk in
    let roomy = c.reserve.new.self.journal in
    let new = c.add.new.self.journal in
    subst (λ (j : JournalTold g.row.D.Denot). StaysWithin d.clock d.images_since j new) c.reserve.ensures.room.same
    (joined_within d.clock d.images_since roomy c.refresh.new.self.journal new c.refresh.ensures.within c.in-Ok-refresh.ensures.ok.limit c.add.ensures.within)
