use Rattle.std.proofs.Common.{refl, ap}
use Rattle.std.specs.Prelude.{Ok}
use Rattle.ots_connection.specs.Stamping.{IsStored, stamped, no_memory}
use Rattle.ots_connection.proofs.Short.{gives_short}
use Rattle.ots_connection.proofs.Withdrawn.{taken_bears, taken_gone, withdrawn_gone}
use Rattle.ots_connection.proofs.closing.take_settled.Goals as goal

pub stamp-requires : goal.stamp-requires
stamp-requires g c = gives_short _ _ _ _ _ (rw c.in-Ok-Settled.field-0-is at c.in-Ok-Settled.ensures.gives)

pub returns-in-Ok-Settled-clause-settles : goal.returns-in-Ok-Settled-clause-settles
returns-in-Ok-Settled-clause-settles g c = λ key second limit row all gone.
    stamped c.in-Ok-Settled.tree c.in-Ok-Settled.receipt
    (record { ticket = c.args.ticket.now; leaf_is = refl; nonce_is = refl; gives = rw c.in-Ok-Settled.field-0-is at c.in-Ok-Settled.ensures.gives })
    (taken_bears c.args.ticket.now (IsStored c.args.ticket.now.leaf c.args.ticket.now.nonce key second limit c.take.new.self.store.records row) _ _ _ _ _ (rw c.in-Ok-Settled.field-0-is at c.in-Ok-Settled.ensures.takes) all)
    (ap Ok c.stamp.ensures.due)

pub returns-in-Err-clause-settles : goal.returns-in-Err-clause-settles
returns-in-Err-clause-settles g c = λ key second limit row all gone. no_memory gone _ refl

pub returns-in-Ok-Settled-clause-gone : goal.returns-in-Ok-Settled-clause-gone
returns-in-Ok-Settled-clause-gone g c = taken_gone _ _ _ _ _ _ (rw c.in-Ok-Settled.field-0-is at c.in-Ok-Settled.ensures.takes)

pub returns-in-Err-clause-gone : goal.returns-in-Err-clause-gone
returns-in-Err-clause-gone g c =
    withdrawn_gone c.args.ticket.now c.args.book.now.tickets c.withdraw.new.self.tickets c.withdraw.result (λ waits settled. c.requires settled)
    (rw c.in-Err.ensures.err at c.withdraw.ensures.withdraws)
