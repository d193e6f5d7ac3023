-- The bytes that a completed tree has at least: for the code.
use Rattle.std.specs.Prelude.{◌≡◌, ℕ, ◌+◌, List, [], ◌∷◌, length, Option, None, Some, nat_le, if◌then◌else◌}
use Rattle.std.specs.List.{slice_get}
use Rattle.ots_tree.specs.declared.token.Token.{Token}
use Rattle.ots_tree.specs.declared.token.TokenAt.{TokenAt}
use Rattle.ots_tree.specs.PendingWalk.{followed}
use Rattle.ots_tree.specs.Wire.{Node, bytes}
use Rattle.ots_canon.specs.Canonical.{IsCanonicalPre}
use Rattle.ots_pending.specs.Pairs.{PairAt}
use Rattle.ots_pending.specs.Grown.{answer_at}

-- each tree that was given is canonical
abbrev pub AreCanonical : List (Option (List Token)) → Type 0
AreCanonical trees = (i : ℕ) (ts : List Token) → slice_get trees i ≡ Some (Some ts) → IsCanonicalPre ts

-- the depth of the node in which an answer was counted, where a token at this depth is in it or below it
abbrev pub around : Option ℕ → ℕ → Option ℕ
around None depth = None
around (Some d) depth = if nat_le d depth then Some d else None

-- the same after a token at this depth, at which an answer may be counted
abbrev pub taken_after : {X : Type 0} → Option ℕ → ℕ → Option X → Option ℕ
taken_after here depth None = here
taken_after here depth (Some t) = Some depth

-- no answer counts in or below such a node
abbrev pub free_answer : Option ℕ → Option Node → Option Node
free_answer None answer = answer
free_answer (Some d) answer = None

-- the answer that counts at a token
abbrev pub counted_answer : List PairAt → List (Option Node) → Option ℕ → List (List ℕ) → TokenAt → Option Node
counted_answer pairs given taken messages l =
    free_answer (around taken l.depth) (answer_at pairs given l.token l.depth messages)

abbrev pub length_of : Option Node → ℕ
length_of None = 0
length_of (Some t) = length (bytes t)

-- how many bytes the answers at these tokens are spelled in, of which one at most counts in a node and below it
abbrev pub disjoint_length : List PairAt → List (Option Node) → Option ℕ → List (List ℕ) → List TokenAt → ℕ
disjoint_length pairs given taken messages [] = 0
disjoint_length pairs given taken messages (l ∷ ls) =
    length_of (counted_answer pairs given taken messages l)
    + disjoint_length pairs given
    (taken_after (around taken l.depth) l.depth (counted_answer pairs given taken messages l))
    (followed l.token l.depth messages) ls
