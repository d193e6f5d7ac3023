use Rattle.std.proofs.Common.{◌≡◌, List, sym, subst}
use Rattle.std.specs.Prelude.{IfOk}
use Rattle.ots_tree.specs.declared.token.Token.{Token}
use Rattle.ots_tree.specs.Made.{lone}
use Rattle.ots_tree.proofs.MadePaths.{lone_pre}
use Rattle.ots_tree.proofs.making.single.Goals as goal

pub from_tokens-requires : goal.from_tokens-requires
from_tokens-requires c =
    (lone c.args.ops.now c.args.attestation, sym (lone_pre c.args.ops.now c.args.attestation _ _ c.in_ok-tokens.ensures c.in_ok-push.ensures.items))

pub returns : goal.returns
returns c =
    let is = lone_pre c.args.ops.now c.args.attestation _ _ c.in_ok-tokens.ensures c.in_ok-push.ensures.items in
    subst (λ (z : List Token). IfOk c.from_tokens.result (λ tree. tree ≡ z)) is c.from_tokens.ensures
