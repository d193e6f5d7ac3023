use Rattle.std.proofs.Common.{◌∙◌, ap, length, arith, List, ◌≡◌, Option, Some}
use Rattle.ots_archive_taken.proofs.Giving.{for_pair, if_ok, pair_there, there}
use Rattle.ots_archive_taken.specs.inner.Giving.{IsTreeGiven}
use Rattle.ots_pending.specs.Pairs.{PairAt}
use Rattle.ots_sheet.specs.Request.{request_parts}
use Rattle.ots_tree.specs.declared.token.Token.{Token}
use Rattle.std.specs.List.{slice_get}
use Rattle.ots_archive_taken.proofs.given.tree_at.Goals as goal

pub tree_given-requires : goal.tree_given-requires
tree_given-requires c =
    let p = there c.args.pairs.now c.args.i c.requires.place in
    let is = pair_there c.args.pairs.now c.args.i _ _ _ _ c.uri.ensures c.message.ensures c.text.ensures.text c.bytes-message.ensures.bytes p.0 p.1 in
    let asked = c.in-Some.ensures p.0 is in
    let askable = c.requires.askable c.args.i p.0 p.1 in
    let same : c.in-Some.request.message.now ≡ c.bytes-message.result.now = asked.0.message ∙ ap (λ z. z.message) is in
    let limits = c.bytes-message.ensures.limits in
    let deep = c.depth-depth.ensures p.0 p.1 in
    record {
      least = (let some = askable.least in let long = ap length asked.0.message in omega (arith, some, long));
      greatest = (let most = limits.greatest in let long = ap length (same ∙ c.bytes-message.ensures.bytes) in omega (arith, most, long));
      depth = (let few = askable.shallow in omega (arith, few, deep));
    }

pub returns-in-Some : goal.returns-in-Some
returns-in-Some c = if_ok _ _ c.tree_given.result
    (λ (tree : Option (List Token)) (given : IsTreeGiven c.args.replies.now (request_parts c.in-Some.request) c.depth-depth.result tree) (p : PairAt) (at : slice_get c.args.pairs.now c.args.i ≡ Some p).
    for_pair c.args.replies.now c.args.kind p (request_parts c.in-Some.request) c.depth-depth.result (c.depth-depth.ensures p at)
    (c.in-Some.ensures p (pair_there c.args.pairs.now c.args.i _ _ _ _ c.uri.ensures c.message.ensures c.text.ensures.text c.bytes-message.ensures.bytes p at)) tree given)
    c.tree_given.ensures
