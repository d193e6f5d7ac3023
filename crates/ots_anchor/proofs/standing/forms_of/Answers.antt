use Rattle.std.proofs.Common.{◌≡◌, ◌∙◌, ◌++◌, rules, arith}
use Rattle.ots_anchor.proofs.Standings.{one_form}
use Rattle.ots_anchor.proofs.standing.forms_of.Goals as goal

pub loop-transaction-preserved : goal.loop-transaction-preserved
loop-transaction-preserved c =
    let w = c.loop-transaction in
    let grown : c.extend_from_slice.new.self.items ≡ w.forms.items ++ c.deref.result.now = search rules in
    let form = c.deref.ensures.value ∙ c.in_ok-stripped.ensures.form in
    grown ∙ (λ i. w.invariant i ++ form i) ∙ one_form c.args.block.now w.transaction (let less = c.loop-transaction-test.true in let all = c.count-transaction-end.ensures in omega (arith, less, all))
