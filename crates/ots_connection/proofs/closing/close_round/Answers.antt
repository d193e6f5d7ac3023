use Rattle.std.proofs.Common.{refl, ap, arith}
use Rattle.std.specs.Prelude.{Ok, Err}
use Rattle.ots_shared.specs.Rows.{row}
use Rattle.ots_connection.proofs.Closes.{closes_it}
use Rattle.ots_connection.specs.Stamping as stamping
use Rattle.ots_connection.proofs.Withdrawn.{settles_it, refused_one, refused_fewer, refused_gone}
use Rattle.ots_connection.proofs.closing.close_round.Goals as goal

pub take_settled-requires : goal.take_settled-requires
take_settled-requires g c = λ none.
    let closed = c.in-Ok.ensures.closed in
    settles_it c.args.service.now.key c.args.second closed.index _ _ _ c.args.ticket.now c.requires.waits closed.settled none

pub returns-in-Ok-clause-settles : goal.returns-in-Ok-clause-settles
returns-in-Ok-clause-settles g c =
    let faults = g.D.Disk.faults in
    let old = c.args.book.now in
    let new = c.take_settled.new.book in
    c.take_settled.ensures.settles c.args.service.now.key c.args.second old.store.journal.limit (row faults old new)
    (closes_it faults c.args.service.now.key c.args.second old.store.journal.limit old c.close.new.book new c.args.ticket.now c.requires.waits c.requires.unsettled
    c.in-Ok.ensures.closed c.in-Ok.ensures.more c.in-Ok.ensures.none c.in-Ok.ensures.fits c.take_settled.ensures.store c.take_settled.ensures.waiting)
    (stamping.closed (rw c.take_settled.ensures.store c.in-Ok.ensures.more) (omega (arith, c.in-Ok.ensures.none, c.take_settled.ensures.waiting)))

pub returns-in-DiskFault-clause-settles : goal.returns-in-DiskFault-clause-settles
returns-in-DiskFault-clause-settles g c =
    stamping.disk (rw c.withdraw.ensures.store (c.in-Err.ensures.disk (ap Err c.in-DiskFault.is)))
    (refused_one c.args.ticket.now c.args.book.now.tickets c.close.new.book.tickets c.withdraw.new.self.tickets c.withdraw.result c.in-Err.ensures.refused c.requires.waits c.requires.unsettled c.withdraw.ensures.withdraws)
    (ap Ok c.in_words.ensures.due)

pub returns-in-Full-clause-settles : goal.returns-in-Full-clause-settles
returns-in-Full-clause-settles g c =
    stamping.full (rw c.withdraw.ensures.store (c.in-Err.ensures.full _ _ (ap Err c.in-Full.is)))
    (refused_one c.args.ticket.now c.args.book.now.tickets c.close.new.book.tickets c.withdraw.new.self.tickets c.withdraw.result c.in-Err.ensures.refused c.requires.waits c.requires.unsettled c.withdraw.ensures.withdraws)
    (ap Ok c.in_words-in-Full.ensures.due)

pub returns-in-OutOfMemory-clause-settles : goal.returns-in-OutOfMemory-clause-settles
returns-in-OutOfMemory-clause-settles g c =
    stamping.no_memory
    (stamping.withdrawn (refused_one c.args.ticket.now c.args.book.now.tickets c.close.new.book.tickets c.withdraw.new.self.tickets c.withdraw.result c.in-Err.ensures.refused c.requires.waits c.requires.unsettled c.withdraw.ensures.withdraws))
    _ refl

pub returns-in-DiskFault-clause-fewer : goal.returns-in-DiskFault-clause-fewer
returns-in-DiskFault-clause-fewer g c = refused_fewer c.args.ticket.now c.args.book.now.tickets c.close.new.book.tickets c.withdraw.new.self.tickets c.withdraw.result c.in-Err.ensures.refused c.requires.waits c.requires.unsettled c.withdraw.ensures.withdraws

pub returns-in-Full-clause-fewer : goal.returns-in-Full-clause-fewer
returns-in-Full-clause-fewer g c = refused_fewer c.args.ticket.now c.args.book.now.tickets c.close.new.book.tickets c.withdraw.new.self.tickets c.withdraw.result c.in-Err.ensures.refused c.requires.waits c.requires.unsettled c.withdraw.ensures.withdraws

pub returns-in-OutOfMemory-clause-fewer : goal.returns-in-OutOfMemory-clause-fewer
returns-in-OutOfMemory-clause-fewer g c = refused_fewer c.args.ticket.now c.args.book.now.tickets c.close.new.book.tickets c.withdraw.new.self.tickets c.withdraw.result c.in-Err.ensures.refused c.requires.waits c.requires.unsettled c.withdraw.ensures.withdraws

pub returns-in-DiskFault-clause-gone : goal.returns-in-DiskFault-clause-gone
returns-in-DiskFault-clause-gone g c =
    refused_gone c.args.ticket.now c.args.book.now.tickets c.close.new.book.tickets c.withdraw.new.self.tickets c.withdraw.result c.in-Err.ensures.refused c.requires.waits c.withdraw.ensures.withdraws

pub returns-in-Full-clause-gone : goal.returns-in-Full-clause-gone
returns-in-Full-clause-gone g c =
    refused_gone c.args.ticket.now c.args.book.now.tickets c.close.new.book.tickets c.withdraw.new.self.tickets c.withdraw.result c.in-Err.ensures.refused c.requires.waits c.withdraw.ensures.withdraws

pub returns-in-OutOfMemory-clause-gone : goal.returns-in-OutOfMemory-clause-gone
returns-in-OutOfMemory-clause-gone g c =
    refused_gone c.args.ticket.now c.args.book.now.tickets c.close.new.book.tickets c.withdraw.new.self.tickets c.withdraw.result c.in-Err.ensures.refused c.requires.waits c.withdraw.ensures.withdraws
