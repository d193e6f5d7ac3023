use Rattle.std.proofs.Common.{◌∙◌, ap, arith}
use Rattle.std.proofs.lemmas.Option.{get_or_from_slice_get}
use Rattle.ots_upgrade.proofs.AskedWith.{asked_count, asked_there}
use Rattle.ots_upgrade.specs.declared.asking.AskedAt.{AskedAt}
use Rattle.ots_upgrade.proofs.asking.AskedList.outcome.Goals as goal

pub index-requires : goal.index-requires
index-requires c = let count = asked_count _ _ _ c.self.view_is c.self.invariant in let same = c.self.invariant in omega arith

pub returns : goal.returns
returns c = λ a at.
    let pair = asked_there _ _ _ c.self.view_is c.args.i a at in
    c.as_ref.ensures.value
    ∙ c.index.ensures
    ∙ get_or_from_slice_get c.self.inside.outcomes.items c.args.i pair.outcome c.index.result.now pair.outcome_there
    ∙ ap (λ (z : AskedAt). z.outcome) pair.is
