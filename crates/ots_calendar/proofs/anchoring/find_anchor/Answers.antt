use Rattle.std.proofs.Common.{◌∙◌, sym, ap, subst}
use Rattle.std.proofs.lemmas.Result.{err_from_is_err_and}
use Rattle.std.specs.Prelude.{IfErr, Result}
use Rattle.ots_anchor.specs.declared.search.FindError.TheVariants.{OutOfMemory}
use Rattle.ots_store.specs.declared.anchor.Anchor.{Anchor}
use Rattle.ots_calendar.specs.declared.errors.AnchorError.{AnchorError}
use Rattle.ots_calendar.specs.Anchors.{roots, FindsNone}
use Rattle.ots_calendar.proofs.Anchored.{stands_within, finds}
use Rattle.ots_calendar.proofs.anchoring.find_anchor.Goals as goal

pub anchor_of-requires-clause-stands : goal.anchor_of-requires-clause-stands
anchor_of-requires-clause-stands g c =
    stands_within c.args.store.now.records c.args.store.now.journal.entries c.args.block.now c.deref-2.result.now c.in_ok-found.found c.stands.ensures.records c.stands.ensures.are
    (c.deref-2.ensures.value ∙ c.in_ok-roots.ensures ∙ ap roots (c.deref.ensures.value ∙ c.in_ok-tips.ensures)) c.in_ok-found.ensures.ok

pub returns-in_err-anchor_of-clause-none : goal.returns-in_err-anchor_of-clause-none
returns-in_err-anchor_of-clause-none g c =
    let p = err_from_is_err_and c.from_residual-in_err-anchor_of.result c.from_residual-in_err-anchor_of.ensures.1 in
    subst (λ (r : Result Anchor AnchorError). IfErr r (FindsNone c.args.store.now.records c.args.block.now)) (sym p.1) (record { why = OutOfMemory; is_why = tt; error_is = p.2 })

pub returns-clause-found : goal.returns-clause-found
returns-clause-found g c =
    finds c.args.store.now.records c.args.block.now c.args.height c.deref-2.result.now c.in_ok-tips.tips.items c.in_ok-found.found c.index.result.now c.in_ok-anchor_of.field-0
    c.in_ok-tips.ensures (c.deref-2.ensures.value ∙ c.in_ok-roots.ensures ∙ ap roots (c.deref.ensures.value ∙ c.in_ok-tips.ensures)) c.in_ok-found.ensures.ok c.index.ensures c.in_ok-anchor_of.ensures.anchor
