-- What one token does to the lengths of the messages on the path of a walk over a tree. It serves
-- the functions that walk; what they find out is said by IsSound.
use Rattle.std.specs.Prelude.{ℕ, ◌+◌, List, [], ◌∷◌, slice_index, slice_set, Option, Some, option_and_then, option_map}
use Rattle.ots_tree.specs.declared.token.Token.{Token}
use Rattle.ots_tree.specs.declared.token.Token.TheVariants as token
use Rattle.ots_tree.specs.declared.token.TokenAt.{TokenAt}
use Rattle.ots_tree.specs.Front.{shape_after}

-- The lengths after a token at depth d, below k more operations: those before it, and after an
-- operation the length of its result.
abbrev pub passed : ℕ → Token → ℕ → List ℕ → Option (List ℕ)
passed k token.Fork d lengths = Some lengths
passed k (token.Op o) d lengths =
    option_map (λ r. slice_set lengths (d + 1) r.length) (shape_after o
    (record { length = slice_index lengths d; depth = k + d }))
passed k (token.Attestation a) d lengths = Some lengths

-- the lengths after all of these
abbrev pub all_passed : ℕ → List TokenAt → List ℕ → Option (List ℕ)
all_passed k [] lengths = Some lengths
all_passed k (l ∷ ls) lengths = option_and_then (all_passed k ls) (passed k l.token l.depth lengths)
