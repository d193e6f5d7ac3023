use Rattle.std.proofs.Common.{◌≡◌, ◌∙◌, inl, refl, ap, subst}
use Rattle.std.specs.Prelude.{Ok}
use Rattle.ots_calendar.specs.Book.{BookTold}
use Rattle.ots_shared.specs.Rows.{row}
use Rattle.ots_connection.specs.Stamping.{Settles, stamped, no_memory}
use Rattle.ots_connection.proofs.Short.{gives_short}
use Rattle.ots_connection.proofs.Told.{changes_nothing, is_gone}
use Rattle.ots_connection.proofs.Withdrawn.{taken_waiting, taken_unknown, taken_gone, taken_none, withdrawn_gone, kept_there, unknown_none}
use Rattle.ots_connection.proofs.closing.settle.Goals as goal

pub stamp-requires : goal.stamp-requires
stamp-requires g c = gives_short _ _ _ _ _ (rw c.in-Ok-Settled.field-0-is at c.in-Ok-Settled.ensures.gives)

pub returns-in-Ok-Settled-clause-settles : goal.returns-in-Ok-Settled-clause-settles
returns-in-Ok-Settled-clause-settles g c =
    stamped c.in-Ok-Settled.tree c.in-Ok-Settled.receipt
    (record { ticket = c.args.ticket.now; leaf_is = refl; nonce_is = refl; gives = rw c.in-Ok-Settled.field-0-is at c.in-Ok-Settled.ensures.gives })
    (inl (changes_nothing g.D.Disk.faults c.args.book.now c.take.new.self c.in-Ok-Settled.ensures.store (taken_none _ _ _ _ _ _ (rw c.in-Ok-Settled.field-0-is at c.in-Ok-Settled.ensures.takes))))
    (ap Ok c.stamp.ensures.due)

pub returns-in-Ok-Waiting-clause-settles : goal.returns-in-Ok-Waiting-clause-settles
returns-in-Ok-Waiting-clause-settles g c =
    let t = c.args.ticket.now in
    let old = c.args.book.now in
    let mid = c.take.new.self in
    let new = c.close_round.new.book in
    let tickets : mid.tickets ≡ old.tickets = taken_waiting _ _ _ _ (rw c.in-Ok-Waiting.field-0-is at c.in-Ok-Waiting.ensures.takes) in
    let same : mid ≡ old = (λ i. record { store = c.in-Ok-Waiting.ensures.store i; tickets = tickets i }) in
    subst (λ (b : BookTold g.row.D.Denot). Settles t.leaf t.nonce c.args.service.now.key c.args.service.now.uri c.args.second b.store.journal.limit new.store.records (row g.D.Disk.faults b new) c.close_round.result) same
    c.close_round.ensures.settles

pub returns-in-Ok-Unknown-clause-settles : goal.returns-in-Ok-Unknown-clause-settles
returns-in-Ok-Unknown-clause-settles g c =
    let tickets : c.take.new.self.tickets ≡ c.args.book.now.tickets = taken_unknown _ _ _ _ (rw c.in-Ok-Unknown.field-0-is at c.in-Ok-Unknown.ensures.takes) in
    (λ i. record { store = c.in-Ok-Unknown.ensures.store i; tickets = tickets i })

pub returns-in-Err-clause-settles : goal.returns-in-Err-clause-settles
returns-in-Err-clause-settles g c =
    no_memory
    (is_gone g.D.Disk.faults c.args.book.now c.withdraw.new.self c.args.ticket.now c.withdraw.result (c.withdraw.ensures.store ∙ c.in-Err.ensures.store)
    (rw c.in-Err.ensures.err at c.withdraw.ensures.withdraws))
    _ refl

pub returns-in-Ok-Settled-clause-gone : goal.returns-in-Ok-Settled-clause-gone
returns-in-Ok-Settled-clause-gone g c = λ is. taken_gone _ _ _ _ _ _ (rw c.in-Ok-Settled.field-0-is at c.in-Ok-Settled.ensures.takes)

pub returns-in-Ok-Waiting-clause-gone : goal.returns-in-Ok-Waiting-clause-gone
returns-in-Ok-Waiting-clause-gone g c = λ is.
    let tickets : c.take.new.self.tickets ≡ c.args.book.now.tickets = taken_waiting _ _ _ _ (rw c.in-Ok-Waiting.field-0-is at c.in-Ok-Waiting.ensures.takes) in
    rw (← tickets) c.close_round.ensures.gone

pub returns-in-Ok-Unknown-clause-gone : goal.returns-in-Ok-Unknown-clause-gone
returns-in-Ok-Unknown-clause-gone g c = λ is. absurd (unknown_none _ _ _ _ (rw c.in-Ok-Unknown.field-0-is at c.in-Ok-Unknown.ensures.takes) is)

pub returns-in-Err-clause-gone : goal.returns-in-Err-clause-gone
returns-in-Err-clause-gone g c = λ is.
    withdrawn_gone c.args.ticket.now c.args.book.now.tickets c.withdraw.new.self.tickets c.withdraw.result (kept_there c.args.ticket.now c.args.book.now.tickets is) (rw c.in-Err.ensures.err at c.withdraw.ensures.withdraws)
