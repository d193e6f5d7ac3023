use Rattle.std.proofs.Common.{◌≡◌, ◌∙◌, List, ap, subst, sym}
use Rattle.ots_store.specs.declared.tip.Tip.{Tip}
use Rattle.ots_store.specs.Order.{HasSpan, tips_of, records_of}
use Rattle.ots_store.specs.Store.{StoreTold}
use Rattle.ots_store.proofs.Storing.{tips_rise}
use Rattle.ots_store.proofs.store.Store.takes_anchor.Goals as goal
use Rattle.ots_store.proofs.store.Store.takes_anchor.Goals.{then-fits_limits, else-fits_limits}

pub returns-else-has_tip-clause-no : goal.returns-else-has_tip-clause-no
returns-else-has_tip-clause-no g c is fits follows =
    let first = c.args.anchor.now.first in
    let count = c.args.anchor.now.count in
    let entries = c.self.inside.journal.entries in
    let same : tips_of (records_of entries) ≡ tips_of c.args.self.now.records = ap (λ (s : StoreTold g.row.D.Denot). tips_of s.records) c.self.view_is in
    elim c.if-fits_limits.branch [
      | then-fits_limits w ↦
          let are : w.tips.result.now ≡ tips_of (records_of entries) = w.tips.ensures ∙ c.self.invariant.holds.tips in
          w.has_tip.ensures.no (sym w.value-is ∙ is) (tips_rise entries w.tips.result.now c.self.invariant.are are) (subst (λ (l : List Tip). HasSpan first count l) (sym (are ∙ same)) follows.tip)
      | else-fits_limits w ↦ c.fits_limits.ensures.no w.if-fits_limits.false fits
    ]
