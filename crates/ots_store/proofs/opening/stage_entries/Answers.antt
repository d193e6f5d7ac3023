use Rattle.std.proofs.Common.{◌≡◌, ◌++◌, ◌∷◌, List, [], ℕ, subst, ap, take}
use Rattle.std.proofs.lemmas.List.{take_all}
use Rattle.ots_journal.specs.declared.entry.Entry.{Entry}
use Rattle.ots_store.specs.Held.{Holds}
use Rattle.ots_store.specs.Order.{records_of}
use Rattle.ots_store.specs.Records.{record_of}
use Rattle.ots_store.proofs.Opened.{staged_more, any_err}
use Rattle.ots_store.proofs.Recorded.{entry}
use Rattle.ots_store.proofs.opening.stage_entries.Goals as goal

pub returns-in_err-stage-clause-err : goal.returns-in_err-stage-clause-err
returns-in_err-stage-clause-err c =
    any_err c.from_residual.result (λ kept flight h.
    let so_far = flight ++ records_of (take c.loop-entry.entry-index c.args.entries.now) in
    (so_far, c.in_err-stage.ensures.err kept so_far (c.loop-entry.invariant kept flight h)))

pub loop-entry-preserved : goal.loop-entry-preserved
loop-entry-preserved c kept flight h =
    let entries = c.args.entries.now in
    let i = c.loop-entry.entry-index in
    let so_far = flight ++ records_of (take i entries) in
    let here : entry c.entry-item.result.kind c.items.result.now ≡ c.entry-item.result = ap (λ (p : List ℕ). entry c.entry-item.result.kind p) c.items.ensures in
    let staged : Holds kept (so_far ++ record_of c.entry-item.result ∷ []) c.stage.new.self =
    subst (λ (e : Entry). Holds kept (so_far ++ record_of e ∷ []) c.stage.new.self) here (c.in_ok-stage.ensures.ok kept so_far (c.loop-entry.invariant kept flight h)) in
    staged_more kept flight entries i c.entry-item.result c.stage.new.self c.loop-entry-test.true
    (subst (λ (e : Entry). Holds kept (so_far ++ record_of e ∷ []) c.stage.new.self) c.entry-item.is staged)

pub returns-clause-ok : goal.returns-clause-ok
returns-clause-ok c kept flight h =
    subst (λ (l : List Entry). Holds kept (flight ++ records_of l) c.loop-entry.held) (take_all c.loop-entry.entry-index c.args.entries.now c.loop-entry-test.false) (c.loop-entry.invariant kept flight h)
