use Rattle.std.proofs.Common.{sym, ap, ◌∙◌, arith}
use Rattle.std.proofs.lemmas.Result.{IfOk-weaker}
use Rattle.ots_calendar.proofs.WholeWay.{cycle_few}
use Rattle.ots_calendar.specs.Answer.{answer}
use Rattle.ots_store.specs.Store.{StoreTold}
use Rattle.ots_connection.proofs.Short.{answer_short}
use Rattle.ots_connection.proofs.asking.prepare.Goals as goal

pub returns-clause-short : goal.returns-clause-short
returns-clause-short g c =
    let s = c.store-store.result.now in
    IfOk-weaker c.prepare.result _ _
    (λ a e. answer_short cycle_few s.records s.journal.entries c.stands.ensures.records c.stands.ensures.are (omega arith) c.bytes.result.now a
    (e ∙ ap (λ (t : StoreTold g.row.D.Denot). answer t.records c.bytes.result.now) (sym c.store-store.ensures)))
    c.prepare.ensures
