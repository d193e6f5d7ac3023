use Rattle.std.proofs.Common.{inl, inr}
use Rattle.std.proofs.Common.{refl}
use Rattle.ots_base.specs.Cause.{Rose}
use Rattle.ots_calendar_words.specs.Words.{read_serving}
use Rattle.ots_workers.specs.Over.{IsDone}
use Rattle.ots_workers.specs.Returned.{AllAnswered}
use Rattle.std.specs.Prelude.{◌≢◌}
use Rattle.ots_calendar_serve.specs.Serve.{ServeAnswers}
use Rattle.ots_calendar_endings.proofs.Running.{closed_ends, opened_ends}
use Rattle.ots_calendar_serve.proofs.serve_command.serve_on.Goals as goal

pub returns-in-Ok-clause-moments : goal.returns-in-Ok-clause-moments
returns-in-Ok-clause-moments g c = inr (
  (c.in-Ok.book.store.journal.entries, record { store = c.in-Ok.ensures.ok.store.has; are_true = c.in-Ok.ensures.ok.are_true }),
  (c.in-Ok.book.store.journal.entries, c.in-Ok.ensures.ok.store.has.stand, c.serve_book.ensures.keeps),
)

pub returns-in-Ok-clause-stays : goal.returns-in-Ok-clause-stays
returns-in-Ok-clause-stays g c = inr (c.in-Ok.book.store.journal.entries, record { store = c.in-Ok.ensures.ok.store.has; are_true = c.in-Ok.ensures.ok.are_true })

pub returns-in-Err-clause-stays : goal.returns-in-Err-clause-stays
returns-in-Err-clause-stays g c = inl (refl, refl, c.in-Err.ensures.err.such.later)

pub returns-in-Err-clause-moments : goal.returns-in-Err-clause-moments
returns-in-Err-clause-moments g c = inl c.in-Err.ensures.err.such.moments

pub returns-in-Ok-clause-ends : goal.returns-in-Ok-clause-ends
returns-in-Ok-clause-ends g c =
    opened_ends g.D.Disk.bytes g.D.Disk.faults g.D.Disk.clock g.D.Disk.images g.D.Disk.images_since
    (ServeAnswers (λ most. IsDone (g.A.Accepter.coming c.serve_book.result.1.accepter) most (g.A.Accepter.accepted c.serve_book.result.1.accepter))
    (AllAnswered g.A.Link.Link.told g.A.Link.Link.faults (g.A.Accepter.returned c.serve_book.result.1.accepter)) (g.A.Accepter.faults c.serve_book.result.1.accepter ≢ 0)
    (Rose (g.K.Sink.faults c.args.out.now) (g.K.Sink.faults c.serve_book.new.out)) (g.A.Accepter.accepted c.serve_book.result.1.accepter) (read_serving c.args.asked)) _ _ _ _
    c.args.disk c.in-Ok.book.store.journal c.serve_book.result.1.disk c.serve_book.result.1.disk refl c.in-Ok.ensures.ok c.serve_book.ensures.ends

pub returns-in-Err-clause-ends : goal.returns-in-Err-clause-ends
returns-in-Err-clause-ends g c =
    closed_ends g.D.Disk.bytes g.D.Disk.faults g.D.Disk.clock g.D.Disk.images g.D.Disk.images_since
    (ServeAnswers (λ most. IsDone (g.A.Accepter.coming c.args.accepter) most (g.A.Accepter.accepted c.args.accepter))
    (AllAnswered g.A.Link.Link.told g.A.Link.Link.faults (g.A.Accepter.returned c.args.accepter)) (g.A.Accepter.faults c.args.accepter ≢ 0)
    (Rose (g.K.Sink.faults c.args.out.now) (g.K.Sink.faults c.refuse-status.new.out)) (g.A.Accepter.accepted c.args.accepter) (read_serving c.args.asked)) _ _ _ _
    c.args.disk c.in-Err.closed.disk c.in-Err.closed.why c.in-Err.ensures.err c.refuse-status.ensures.printed

pub returns-in-Ok-clause-acknowledged : goal.returns-in-Ok-clause-acknowledged
returns-in-Ok-clause-acknowledged g c = inr c.serve_book.ensures.acknowledged

pub returns-in-Err-clause-acknowledged : goal.returns-in-Err-clause-acknowledged
returns-in-Err-clause-acknowledged g c = inl refl
