-- How a walk puts the answers into a tree, token by token: for the code. What comes of it is said by
-- IsCompleted.
use Rattle.std.specs.Prelude.{◌≡◌, ◌⊎◌, ℕ, ◌-◌, ◌^◌, ◌<◌, ◌≤◌, min, List, [], ◌∷◌, ◌++◌, map, length, Bool, true, false}
use Rattle.std.specs.Prelude.{IsTrue, Option, None, Some, option_and_then, option_map, if◌then◌else◌}
use Rattle.std.specs.List.{slice_get}
use Rattle.ots_attest.specs.declared.attestation.Attestation.TheVariants as attestation
use Rattle.ots_tree.specs.declared.token.Token.{Token}
use Rattle.ots_tree.specs.declared.token.Token.TheVariants as token
use Rattle.ots_tree.specs.declared.token.TokenAt.{TokenAt}
use Rattle.ots_tree.specs.PendingWalk.{ended, followed}
use Rattle.ots_tree.specs.Wire.{Node, last, more, pre, pre_item, spelled}
use Rattle.ots_pending.specs.Pairs.{PairAt}
use Rattle.ots_pending.specs.Completed.{answer_to}
use Rattle.ots_pending.specs.declared.growing.Growth.{Growth}
use Rattle.ots_pending.specs.declared.path.Path.{Path}
use Rattle.ots_pending.specs.OnPath.{HasNumber, AreNumbers}

-- the items of a node, each with a fork before it
abbrev pub forked : Node → List Token
forked (last i) = token.Fork ∷ pre_item i
forked (more i t) = token.Fork ∷ (pre_item i ++ forked t)

-- the tree that was given for a token at a depth
abbrev pub answer_at : List PairAt → List (Option Node) → Token → ℕ → List (List ℕ) → Option Node
answer_at pairs given token.Fork depth messages = None
answer_at pairs given (token.Op o) depth messages = None
answer_at pairs given (token.Attestation a) depth messages = answer_to pairs given a (slice_get messages depth)

-- A token, and the items of the tree that was given for it: after it where a fork stands before it,
-- since another item follows then, and before it where it is the last item.
abbrev pub put : Bool → Token → Option Node → List Token
put b x None = x ∷ []
put false x (Some t) = forked t ++ x ∷ []
put true x (Some t) = x ∷ forked t

abbrev pub is_fork : Token → Bool
is_fork token.Fork = true
is_fork (token.Op o) = false
is_fork (token.Attestation a) = false

-- no tree, or this one
abbrev pub MayBe : Option Node → Option Node → Type 0
MayBe answer t = (t ≡ None) ⊎ (t ≡ answer)

-- A token is the first of these, with the items of its answer, or without where they need not be put, and others
-- follow.
pub record PutsFirst (b : Bool) (x : Token) (answer : Option Node) (Must : Type 0) (Follow : List Token → Type 0)
    (made : List Token) : Type 0 where
  pub tree : Option Node
  pub others : List Token
  pub may : MayBe answer tree
  pub must : Must → tree ≡ answer
  pub are : made ≡ put b x tree ++ others
  pub follow : Follow others

-- What these tokens may become, after a fork or not, where n paths have ended before them, with these messages on the
-- path: the trees are put at the ends of the paths with certain numbers, and perhaps at others. After them `count`
-- paths have ended.
abbrev pub GrowsInPart : List PairAt → List (Option Node) → (ℕ → Type 0) → ℕ → Bool → ℕ → List (List ℕ) → List TokenAt
    → List Token → Type 0
GrowsInPart pairs given Must count b n messages [] made = (made ≡ []) × (n ≡ count)
GrowsInPart pairs given Must count b n messages (l ∷ ls) made =
    PutsFirst b l.token (answer_at pairs given l.token l.depth messages) (Must n)
    (λ others. GrowsInPart pairs given Must count (is_fork l.token) (ended l.token n)
    (followed l.token l.depth messages) ls others) made

-- the numbers from one up to another
abbrev pub IsBetween : ℕ → ℕ → ℕ → Type 0
IsBetween from to n = (from ≤ n) × (n < to)

-- A tree grew: at the ends of the paths from this number up to the one at which the next window begins each tree is
-- put, and this is no path's where that is told.
pub record Grows (pairs : List PairAt) (given : List (Option Node)) (messages : List (List ℕ)) (ls : List TokenAt)
    (from : ℕ) (made : Growth) : Type 0 where
  pub count : ℕ
  pub part : GrowsInPart pairs given (IsBetween from made.next) count false 0 messages ls made.tokens.items
  pub whole : IsTrue made.is_whole → count ≤ made.next

-- Where a tree was given, one is ready whose tokens are its items and after them the pending attestation.
abbrev pub IsReady : List ℕ → Option Node → Option (List Token) → Type 0
IsReady uri None None = Unit {0}
IsReady uri None (Some ts) = ⊥
IsReady uri (Some t) None = ⊥
IsReady uri (Some t) (Some ts) = ts ≡ forked t ++ token.Attestation (attestation.Pending uri) ∷ []

abbrev pub IsReadyAt : List ℕ → Option Node → Option (Option (List Token)) → Type 0
IsReadyAt uri t None = ⊥
IsReadyAt uri t (Some r) = IsReady uri t r

-- so it is for the first n of these pairs
abbrev pub AreReadyTo : ℕ → List PairAt → List (Option Node) → List (Option (List Token)) → Type 0
AreReadyTo n pairs given ready = (i : ℕ) (p : PairAt) (t : Option Node) → i < n → slice_get pairs i ≡ Some p
    → slice_get given i ≡ Some t
    → IsReadyAt p.pair.uri t (slice_get ready i)

-- what was given is no tree, or the tokens of one
pub record IsTree (tree : Option (List Token)) : Type 0 where
  pub given : Option Node
  pub is : option_map pre given ≡ tree

pub record AreTrees (trees : List (Option (List Token))) : Type 0 where
  pub given : List (Option Node)
  pub are : map (option_map pre) given ≡ trees

-- for all of them
pub record AreReady (pairs : List PairAt) (trees ready : List (Option (List Token))) : Type 0 where
  pub long : length trees ≡ length pairs
  pub each : (given : List (Option Node)) → map (option_map pre) given ≡ trees
      → AreReadyTo (length pairs) pairs given ready

-- these are the trees that are put where these were given
pub record ArePut (pairs : List PairAt) (given : List (Option Node)) (ready : List (Option (List Token))) : Type 0 where
  pub long : length given ≡ length pairs
  pub each : AreReadyTo (length pairs) pairs given ready

-- A token asks for the pair at a place, and what is given there is the answer.
pub record StandsAt (pairs : List PairAt) (x : Token) (depth : ℕ) (messages : List (List ℕ)) (i : ℕ) : Type 0 where
  pub pair : PairAt
  pub place : slice_get pairs i ≡ Some pair
  pub pending : x ≡ token.Attestation (attestation.Pending pair.pair.uri)
  pub answer : (given : List (Option Node)) → length given ≡ length pairs
      → slice_get given i ≡ Some (answer_at pairs given x depth messages)

-- Or it asks for none of these pairs, and has no answer.
abbrev pub IsPairOf : List PairAt → Token → ℕ → List (List ℕ) → Option ℕ → Type 0
IsPairOf pairs x depth messages None = (given : List (Option Node)) → answer_at pairs given x depth messages ≡ None
IsPairOf pairs x depth messages (Some i) = StandsAt pairs x depth messages i

-- the number of the message at a depth, where it has one
abbrev pub IsKnownAt : List (List ℕ) → List (List ℕ) → ℕ → Option ℕ → Type 0
IsKnownAt messages path depth None = (m : List ℕ) → slice_get path depth ≡ Some m → (i : ℕ)
    → slice_get messages i ≡ Some m → ⊥
IsKnownAt messages path depth (Some number) = HasNumber messages path depth number

-- The path has the same messages, and its numbers are right.
pub record KeepsPath (messages : List (List ℕ)) (old new : Path) : Type 0 where
  pub same : new.messages ≡ old.messages
  pub numbers : AreNumbers messages new

-- the last token first, where a fork stands before
abbrev pub last_first : List Token → List Token → List Token
last_first prefix [] = prefix
last_first prefix (x ∷ []) = x ∷ prefix
last_first prefix (x ∷ y ∷ xs) = last_first (prefix ++ x ∷ []) (y ∷ xs)

abbrev pub turned : Bool → List Token → List Token
turned b xs = if b then last_first [] xs else xs

-- a token, or in its place the tree that is ready
abbrev pub put_ready : Bool → Token → Option (List Token) → List Token
put_ready b x None = x ∷ []
put_ready b x (Some ts) = turned b ts

-- what is ready at a place
abbrev pub tree_at : List (Option (List Token)) → Option ℕ → Option (List Token)
tree_at ready None = None
tree_at ready (Some i) = option_and_then (λ r. r) (slice_get ready i)

-- The tree that is put for a token in a window: the one that is ready for the pair it asks for.
pub record IsReadyFor (pairs : List PairAt) (ready : List (Option (List Token))) (x : Token) (depth : ℕ)
    (messages : List (List ℕ)) (tree : Option (List Token)) : Type 0 where
  pub place : Option ℕ
  pub is : IsPairOf pairs x depth messages place
  pub tree_is : tree ≡ tree_at ready place

-- Outside it no tree is put.
abbrev pub IsPutFor : List PairAt → List (Option (List Token)) → Token → ℕ → List (List ℕ) → Bool
    → Option (List Token) → Type 0
IsPutFor pairs ready x depth messages true tree = IsReadyFor pairs ready x depth messages tree
IsPutFor pairs ready x depth messages false tree = tree ≡ None

-- A window goes on: so many paths have ended and trees of so many bytes were put.
abbrev pub IsWithin : ℕ → ℕ → ℕ → ℕ → Bool → Type 0
IsWithin from room ended length true = (from ≤ ended) × (length ≤ room)
IsWithin from room ended length false = (ended < from) ⊎ (room < length)

-- the number of the first path after a window
abbrev pub next_after : Bool → ℕ → ℕ → ℕ
next_after goes_on ended next = if goes_on then ended else next

-- how many bytes a tree is spelled in, where there is one, at most 2^64 - 1
abbrev pub length_put : Option (List Token) → ℕ
length_put None = 0
length_put (Some ts) = min (length (spelled ts)) (2 ^ 64 - 1)
