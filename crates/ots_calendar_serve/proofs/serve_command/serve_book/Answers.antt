use Rattle.std.proofs.Common.{subst}
use Rattle.ots_calendar_words.specs.Words.{read_serving}
use Rattle.ots_workers.specs.Over.{IsDone}
use Rattle.ots_calendar_endings.proofs.Running.{rose_later}
use Rattle.ots_calendar_serve.proofs.Serving.{nothing_more, unheard_not_done, served_ends, unheard_ends}
use Rattle.ots_calendar_serve.proofs.serve_command.serve_book.Goals as goal

pub returns-in-Ok-clause-ends : goal.returns-in-Ok-clause-ends
returns-in-Ok-clause-ends g c =
    served_ends (λ most. IsDone (g.A.Accepter.coming c.serve_front.result.1.accepter) most (g.A.Accepter.accepted c.serve_front.result.1.accepter)) _ _ _ _ (read_serving c.args.asked) _ _ _ _ _ _ _ _ _
    (rose_later _ _ _ c.in-Ok.ensures.sink.later) c.in-Ok.ensures.listens c.serve_front.ensures.tells

pub returns-in-Err-clause-ends : goal.returns-in-Err-clause-ends
returns-in-Err-clause-ends g c =
    unheard_ends (λ most. IsDone (g.A.Accepter.coming c.listen.new.accepter) most (g.A.Accepter.accepted c.listen.new.accepter)) _ _ _ _ (read_serving c.args.asked) _ _ _ _ _ _ _
    (λ b image. c.requires.stand b (subst (λ d. g.D.Disk.images d b) c.into_disk.ensures image)) c.in-Err.ensures.listens

pub returns-in-Err-clause-keeps : goal.returns-in-Err-clause-keeps
returns-in-Err-clause-keeps g c = λ b image. nothing_more _ b (c.requires.stand b (subst (λ d. g.D.Disk.images d b) c.into_disk.ensures image))

pub returns-in-Err-clause-acknowledged : goal.returns-in-Err-clause-acknowledged
returns-in-Err-clause-acknowledged g c = λ done. absurd (unheard_not_done _ _ _ _ _ _ c.in-Err.ensures.listens done)
