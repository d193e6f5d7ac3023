use Rattle.std.proofs.Common.{rules, ◌≡◌, [], sym, ◌∙◌, append-nil}
use Rattle.ots_workers.proofs.Within.{all_more}
use Rattle.ots_workers.proofs.serving.serve_links.Goals as goal

-- Nothing was done with the book.
pub returns-in-Err-clause-records : goal.returns-in-Err-clause-records
returns-in-Err-clause-records g c =
    let same : c.end-in-Err.result.book.store.records ≡ c.args.book.store.records = search rules in
    ([], same ∙ sym (append-nil c.args.book.store.records))

pub returns-in-Ok-clause-within : goal.returns-in-Ok-clause-within
returns-in-Ok-clause-within g c = λ none done.
    let p = c.end.ensures.parts in
    let whole = (c.ending_of-ending.ensures.done (sym p.0 ∙ done)).1 in
    rw (p.1, p.2) (all_more g.A.Link.Link.told g.A.Link.Link.faults c.close.result.store.records c.serve_shared-front.result.1.seen c.close.ensures.seen _ (c.serve_shared-front.ensures.within none whole))
