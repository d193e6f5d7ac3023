use Rattle.std.proofs.Common.{◌≡◌, map, take}
use Rattle.ots_tree.specs.declared.token.Token.TheVariants as token
use Rattle.ots_tree.proofs.making.operations.Given as goal

abbrev pub invariant-loop-op : goal.invariant-loop-op
invariant-loop-op l = l.tokens.items ≡ map (λ o. token.Op o) (take l.op-index l.ops)
