-- Which of the calendars' trees a gateway takes.
use Rattle.std.specs.Prelude.{ℕ, ◌+◌, List, [], ◌∷◌, length, nat_le, if◌then◌else◌}
use Rattle.ots_asking.specs.declared.outcome.Outcome.{Outcome}
use Rattle.ots_asking.specs.declared.outcome.Outcome.TheVariants.{Tree, Unreachable, Status, TooLong, BadHttp}
use Rattle.ots_asking.specs.declared.outcome.Outcome.TheVariants.{BadReply}
use Rattle.ots_base.specs.declared.limits.TheConstants.{MAX_REPLY_BODY}
use Rattle.ots_tree.specs.Wire.{spelled}
use Rattle.ots_tree.specs.declared.token.Token.{Token}

-- how many bytes a tree has
abbrev pub size : List Token → ℕ
size tree = length (spelled tree)

-- how many bytes trees have, and one after each
abbrev pub sizes : List (List Token) → ℕ
sizes [] = 0
sizes (tree ∷ trees) = size tree + 1 + sizes trees

-- Trees are gone through in order. The longest way's bytes, those of the trees taken so far and one byte after each of
-- them are used; a tree is taken where with it these are at most 10,000.
abbrev pub taken : ℕ → List (List Token) → List (List Token)
taken used [] = []
taken used (tree ∷ trees) =
    if nat_le (used + size tree) MAX_REPLY_BODY then tree ∷ taken (used + size tree + 1) trees else taken used trees

-- The outcomes with those trees alone: one that is not taken is told as too long.
abbrev pub taking : ℕ → List Outcome → List Outcome
taking used [] = []
taking used (Tree tree ∷ outcomes) =
    if nat_le (used + size tree) MAX_REPLY_BODY then Tree tree ∷ taking (used + size tree + 1) outcomes
    else TooLong ∷ taking used outcomes
taking used (Unreachable ∷ outcomes) = Unreachable ∷ taking used outcomes
taking used (Status code ∷ outcomes) = Status code ∷ taking used outcomes
taking used (TooLong ∷ outcomes) = TooLong ∷ taking used outcomes
taking used (BadHttp ∷ outcomes) = BadHttp ∷ taking used outcomes
taking used (BadReply fault ∷ outcomes) = BadReply fault ∷ taking used outcomes
