use Rattle.std.proofs.Common.{◌∷◌, ◌++◌, ◌∙◌, [], refl, sym}
use Rattle.ots_draft.proofs.Gathers.{all_more, gathered_more}
use Rattle.ots_draft.proofs.gathering.joined.Goals as goal

pub returns-then-bytes-max : goal.returns-then-bytes-max
returns-then-bytes-max c = λ nodes u is next.
    c.in_form.ensures (nodes ++ u ∷ [])
    (all_more nodes u c.args.before.tree c.in_ok-copy.field-0 c.in_ok-all.all is.all (next ∙ sym c.in_ok-copy.ensures) c.in_ok-all.ensures)

pub returns : goal.returns
returns c = λ nodes u is next. gathered_more nodes u c.args.before _ c.in_ok-copy.field-0 is (next ∙ sym c.in_ok-copy.ensures) c.in_ok-all.ensures refl
