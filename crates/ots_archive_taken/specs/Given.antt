-- The trees that a sheet of replies gives a proof. Source: this project's format of sheets. A body is good where a tree
-- is all of it (python-opentimestamps, opentimestamps/calendar.py: RemoteCalendar).
use Rattle.std.specs.Prelude.{◌≡◌, ℕ, List, [], ◌∷◌, length, Option, None, Some}
use Rattle.std.specs.List.{filter_map}
use Rattle.ots_asking.specs.Outcome.{IsOutcomeOfBody}
use Rattle.ots_asking.specs.declared.outcome.Outcome.TheVariants.{Tree}
use Rattle.ots_draft.specs.Draft.{IsPost}
use Rattle.ots_pending.specs.Pairs.{PairAt}
use Rattle.ots_replies.specs.Replies.{HasReply}
use Rattle.ots_sheet.specs.Reply.{Answer, Body}
use Rattle.ots_sheet.specs.Request.{RequestParts}
use Rattle.ots_sheet.specs.declared.request.Kind.{Kind}
use Rattle.ots_sheet.specs.declared.request.Kind.TheVariants.{Get, Post}
use Rattle.ots_tree.specs.declared.token.Token.{Token}

-- The URL that the URI of a pending attestation names: the URI itself; or, where a draft is posted, the address for
-- which it waits.
abbrev pub NamesUrl : Kind → List ℕ → List ℕ → Type 0
NamesUrl Get uri url = url ≡ uri
NamesUrl Post uri url = IsPost uri url

-- The request is what is asked for a pair, in this way.
pub record IsRequestFor (kind : Kind) (p : PairAt) (r : RequestParts) : Type 0 where
  pub kind_is : r.kind ≡ kind
  pub url : NamesUrl kind p.pair.uri r.url
  pub message : r.message ≡ p.pair.message

-- The reply to a request has status 200, and its whole body is this tree, which may stand below the request's message
-- and so many operations.
pub record GivesTree (answers : List Answer) (r : RequestParts) (depth : ℕ) (tree : List Token) : Type 0 where
  pub body : List ℕ
  pub reply : HasReply answers r (Body body)
  pub whole : IsOutcomeOfBody (length r.message) depth body (Tree tree)

-- the tree that is given for a pair, if one is
abbrev pub IsTreeFor : List Answer → Kind → PairAt → Option (List Token) → Type 0
IsTreeFor answers kind p None = (r : RequestParts) (tree : List Token) → IsRequestFor kind p r
    → GivesTree answers r p.depth tree → ⊥
IsTreeFor answers kind p (Some tree) = (r : RequestParts) × IsRequestFor kind p r × GivesTree answers r p.depth tree

-- the same for each of these pairs, in order
abbrev pub AreTreesFor : List Answer → Kind → List PairAt → List (Option (List Token)) → Type 0
AreTreesFor answers kind [] [] = Unit {0}
AreTreesFor answers kind [] (t ∷ trees) = ⊥
AreTreesFor answers kind (p ∷ pairs) [] = ⊥
AreTreesFor answers kind (p ∷ pairs) (t ∷ trees) = IsTreeFor answers kind p t × AreTreesFor answers kind pairs trees

-- the trees that there are, in order
abbrev pub good : List (Option (List Token)) → List (List Token)
good trees = filter_map (λ t. t) trees

-- These are the trees that are given for the pairs, in order.
pub record AreGoodTrees (answers : List Answer) (kind : Kind) (pairs : List PairAt)
    (trees : List (List Token)) : Type 0 where
  pub given : List (Option (List Token))
  pub each : AreTreesFor answers kind pairs given
  pub good_are : trees ≡ good given
