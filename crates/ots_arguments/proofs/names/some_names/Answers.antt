use Rattle.std.proofs.Common.{◌∙◌, sym, arith}
use Rattle.ots_arguments.proofs.NameLemmas.{all_named, named_next, not_named}
use Rattle.ots_arguments.proofs.names.some_names.Goals as goal

pub loop-name-init : goal.loop-name-init
loop-name-init c = λ k less. absurd (omega arith)

pub returns-then-is_empty-2 : goal.returns-then-is_empty-2
returns-then-is_empty-2 c = not_named c.args.most c.args.names.now _ c.loop-name.name-index c.loop-name-test.true (sym c.is_empty-in-loop-name.ensures ∙ c.if-is_empty-2.true)

pub loop-name-preserved : goal.loop-name-preserved
loop-name-preserved c = named_next c.args.names.now c.loop-name.name-index c.loop-name-test.true c.loop-name.invariant _ (sym c.is_empty-in-loop-name.ensures ∙ c.if-is_empty-2.false)

pub returns : goal.returns
returns c = all_named c.args.most c.args.names.now c.loop-name.name-index (sym c.is_empty.ensures ∙ c.if-is_empty.false) c.if-names-most.false c.loop-name-test.false c.loop-name.invariant
