use Rattle.std.proofs.Common.{◌≡◌, ◌++◌, take, map}
use Rattle.ots_canon.specs.Tags.{tag_of}
use Rattle.ots_canon.proofs.tokens.push_tags.Given as goal

abbrev pub invariant-loop-token : goal.invariant-loop-token
invariant-loop-token l = l.tags.items ≡ l.initial.tags.items ++ map tag_of (take l.token-index l.tokens)
