-- What the pending paths of a proof ask calendars for (python-opentimestamps,
-- opentimestamps/core/notary.py, PendingAttestation: a calendar is asked at the URI for the message
-- that the attestation stands on).
use Rattle.std.specs.Prelude.{◌≡◌, ◌≤◌, ℕ, List, [], ◌∷◌, map, length, Some, Bool, ◌&&◌, not, max, bytes_eq}
use Rattle.std.specs.Prelude.{if◌then◌else◌}
use Rattle.std.specs.List.{filter, slice_get}
use Rattle.ots_base.specs.declared.limits.TheConstants.{MAX_OPERATIONS}
use Rattle.ots_tree.specs.declared.detached.Detached.{Detached}
use Rattle.ots_tree.specs.declared.pending.PendingAt.{PendingAt}
use Rattle.ots_tree.specs.Pending.{ArePending}

-- a URI, and a message that is asked for there
pub record Pair : Type 0 where
  pub uri : List ℕ
  pub message : List ℕ

-- a pair with the number of operations before it, where it stands deepest
pub record PairAt : Type 0 where
  pub pair : Pair
  pub depth : ℕ

-- what a pending path asks for
abbrev pub asked_by : PendingAt → Pair
asked_by p = record { uri = p.uri; message = p.message }

abbrev pub is_same : Pair → Pair → Bool
is_same p q = bytes_eq p.uri q.uri && bytes_eq p.message q.message

-- each of these pairs once, in the order in which they first come
abbrev pub once : List Pair → List Pair
once [] = []
once (p ∷ ps) = p ∷ filter (λ q. not (is_same p q)) (once ps)

-- the most operations on one of these pending paths that ask for the pair
abbrev pub deepest : Pair → List PendingAt → ℕ
deepest p [] = 0
deepest p (x ∷ xs) = if is_same p (asked_by x) then max x.depth (deepest p xs) else deepest p xs

abbrev pub at_depth : List PendingAt → Pair → PairAt
at_depth found p = record { pair = p; depth = deepest p found }

-- each pair that these pending paths ask for, once, at its greatest depth
abbrev pub pairs_of : List PendingAt → List PairAt
pairs_of found = map (at_depth found) (once (map asked_by found))

-- These are the pairs that the pending paths of a proof ask for.
pub record ArePairs (proof : Detached) (pairs : List PairAt) : Type 0 where
  pub found : List PendingAt
  pub pending : ArePending proof found
  pub are : pairs ≡ pairs_of found

-- A calendar can be asked for the pair: the message is not empty, and at most 255 operations are before
-- it.
pub record IsAskable (p : PairAt) : Type 0 where
  pub least : 1 ≤ length p.pair.message
  pub shallow : p.depth ≤ MAX_OPERATIONS

abbrev pub AreAskable : List PairAt → Type 0
AreAskable pairs = (i : ℕ) (p : PairAt) → slice_get pairs i ≡ Some p → IsAskable p
