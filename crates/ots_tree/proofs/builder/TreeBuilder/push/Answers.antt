use Rattle.std.proofs.Common.{rules, ◌≡◌, ◌∷◌, ◌++◌, []}
use Rattle.ots_tree.proofs.DepthWalk.{one_built}
use Rattle.ots_tree.proofs.builder.TreeBuilder.push.Goals as goal

pub invariant_of-self-2 : goal.invariant_of-self-2
invariant_of-self-2 c =
    let b = c.self.inside in
    let longer : c.push_reserved.new.self.items ≡ b.tokens.items ++ c.args.token ∷ [] = search rules in
    let deeper : c.push_reserved-2.new.self.items ≡ b.depths.items ++ c.last-depth.result ∷ [] = search rules in
    one_built b.tokens.items c.push_reserved.new.self.items b.depths.items c.push_reserved-2.new.self.items c.args.token c.last-depth.result b.walk c.count.new.walk c.in_ok-count.field-0
    c.self.invariant c.limits_of_token.ensures longer deeper c.last-depth.ensures c.in_ok-count.ensures.step
