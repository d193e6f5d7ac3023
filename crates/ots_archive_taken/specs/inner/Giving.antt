-- For the code that looks for trees.
use Rattle.std.specs.Prelude.{◌≡◌, ℕ, List, Option, None, Some}
use Rattle.ots_archive_taken.specs.Given.{GivesTree, IsRequestFor}
use Rattle.ots_asking.specs.Outcome.{IsOutcomeOfBody}
use Rattle.ots_asking.specs.declared.outcome.Outcome.TheVariants.{Tree}
use Rattle.ots_pending.specs.Pairs.{PairAt}
use Rattle.ots_sheet.specs.Reply.{Answer, Body, Nothing, ReplyParts, Status}
use Rattle.ots_sheet.specs.Request.{RequestParts}
use Rattle.ots_sheet.specs.declared.request.Kind.{Kind}
use Rattle.ots_tree.specs.declared.token.Token.{Token}

-- what is asked for a pair, and nothing else is, or nothing at all
abbrev pub IsRequestOf : Kind → PairAt → Option RequestParts → Type 0
IsRequestOf kind p None = (r : RequestParts) → IsRequestFor kind p r → ⊥
IsRequestOf kind p (Some q) = IsRequestFor kind p q × ((r : RequestParts) → IsRequestFor kind p r → r ≡ q)

-- the tree that the reply to a request has as its body, if it has one
abbrev pub IsTreeGiven : List Answer → RequestParts → ℕ → Option (List Token) → Type 0
IsTreeGiven answers r depth None = (tree : List Token) → GivesTree answers r depth tree → ⊥
IsTreeGiven answers r depth (Some tree) = GivesTree answers r depth tree

-- the tree that a whole body is, if it is one
abbrev pub IsWhole : ℕ → ℕ → List ℕ → Option (List Token) → Type 0
IsWhole n k body None = (tree : List Token) → IsOutcomeOfBody n k body (Tree tree) → ⊥
IsWhole n k body (Some tree) = IsOutcomeOfBody n k body (Tree tree)

-- the tree that a reply has as its body, if it has one
abbrev pub IsTreeOf : ℕ → ℕ → ReplyParts → Option (List Token) → Type 0
IsTreeOf n k (Body body) tree = IsWhole n k body tree
IsTreeOf n k (Status code) tree = tree ≡ None
IsTreeOf n k Nothing tree = tree ≡ None
