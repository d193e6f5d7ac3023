use Rattle.std.proofs.Common.{◌≡◌, ◌≤◌, ◌++◌, drop, length}
use Rattle.ots_draft.specs.inner.Reading.{leading}
use Rattle.ots_draft.proofs.reading.leading_operations.Given as goal

-- Those that are copied come first, and the others follow.
abbrev pub invariant-loop-token : goal.invariant-loop-token
invariant-loop-token l = record {
  leads : l.ops ++ leading (drop l.token-index l.tokens) ≡ leading l.tokens;
  within : length l.ops ≤ l.token-index;
}
