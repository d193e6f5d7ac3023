use Rattle.std.proofs.Common.{rules, ◌≡◌, ◌++◌}
use Rattle.ots_tree.specs.Made.{chain}
use Rattle.ots_tree.proofs.MadePaths.{chain_pre, result_under}
use Rattle.ots_tree.proofs.making.under.Goals as goal

pub from_tokens-requires : goal.from_tokens-requires
from_tokens-requires c =
    let appended : c.append.new.self.items ≡ c.in_ok-tokens.tokens.items ++ c.args.tree = search rules in
    let u = chain_pre c.args.ops.now c.args.tree _ _ c.into_tokens-below.ensures.pre c.in_ok-tokens.ensures appended in
    (chain c.args.ops.now u.node, u.made_is)

pub returns : goal.returns
returns c =
    let appended : c.append.new.self.items ≡ c.in_ok-tokens.tokens.items ++ c.args.tree = search rules in
    let u = chain_pre c.args.ops.now c.args.tree _ _ c.into_tokens-below.ensures.pre c.in_ok-tokens.ensures appended in
    result_under c.args.ops.now c.args.tree c.append.new.self.items c.from_tokens.result u c.from_tokens.ensures
