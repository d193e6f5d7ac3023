use Rattle.std.proofs.Common.{sym, ◌∙◌, ap}
use Rattle.ots_store.specs.Index.{least}
use Rattle.ots_store.specs.Order.{commits_of}
use Rattle.ots_store.specs.Records.{Record}
use Rattle.std.specs.Prelude.{List}
use Rattle.ots_calendar.proofs.Asked.{all_long, least_none}
use Rattle.ots_calendar.proofs.answering.index_of.Goals as goal

pub returns-then-commitment-ne-COMMITMENT : goal.returns-then-commitment-ne-COMMITMENT
returns-then-commitment-ne-COMMITMENT g c =
    let entries = c.args.store.now.journal.entries in
    sym (ap (λ (l : List Record). least c.args.commitment.now (commits_of l)) c.stands.ensures.records
    ∙ least_none c.args.commitment.now _ (all_long entries c.stands.ensures.are.each) c.if-commitment-ne-COMMITMENT.true)
