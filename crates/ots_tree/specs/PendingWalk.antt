-- How a walk over the tokens of a tree finds its pending paths. It serves the functions that walk;
-- what they find is said by ArePending.
use Rattle.std.specs.Prelude.{ℕ, ◌+◌, List, [], ◌∷◌, ◌++◌, take, option_to_list, Option, option_and_then}
use Rattle.std.specs.List.{slice_get}
use Rattle.ots_ops.specs.Apply.{apply}
use Rattle.ots_ops.specs.declared.op.Op.{Op}
use Rattle.ots_tree.specs.declared.token.Token.{Token}
use Rattle.ots_tree.specs.declared.token.Token.TheVariants as token
use Rattle.ots_tree.specs.declared.token.TokenAt.{TokenAt}
use Rattle.ots_tree.specs.declared.pending.PendingAt.{PendingAt}
use Rattle.ots_tree.specs.Pending.{asked}

-- the result of an operation on the message at a depth, where both are
abbrev pub result_at : Op → ℕ → List (List ℕ) → Option (List ℕ)
result_at o d messages = option_and_then (apply o) (slice_get messages d)

-- The messages of the nodes on the path, by their depths, after a token at depth d.
abbrev pub followed : Token → ℕ → List (List ℕ) → List (List ℕ)
followed token.Fork d messages = messages
followed (token.Op o) d messages = take (d + 1) messages ++ option_to_list (result_at o d messages)
followed (token.Attestation a) d messages = messages

-- what a token at depth d adds, where n paths have ended before it
abbrev pub added : Token → ℕ → ℕ → List (List ℕ) → List PendingAt
added token.Fork d n messages = []
added (token.Op o) d n messages = []
added (token.Attestation a) d n messages = asked n d a (slice_get messages d)

-- how many paths have ended after it
abbrev pub ended : Token → ℕ → ℕ
ended token.Fork n = n
ended (token.Op o) n = n
ended (token.Attestation a) n = n + 1

-- what all of these tokens add
abbrev pub walked : ℕ → List (List ℕ) → List TokenAt → List PendingAt
walked n messages [] = []
walked n messages (l ∷ ls) = added l.token l.depth n messages
    ++ walked (ended l.token n) (followed l.token l.depth messages) ls
