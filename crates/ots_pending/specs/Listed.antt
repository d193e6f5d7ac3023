-- How pairs are kept, and how they grow by one pending path: for the code. What they are is said by
-- ArePairs.
use Rattle.std.specs.Prelude.{◌≡◌, ℕ, zero, suc, ◌<◌, ◌^◌, List, [], ◌∷◌, ◌++◌, map, length, max, nat_lt}
use Rattle.std.specs.Prelude.{slice_index_or, Some, if◌then◌else◌}
use Rattle.std.specs.List.{list_any, slice_get}
use Rattle.std.specs.Int.{to_le_bytes, w64}
use Rattle.ots_tree.specs.declared.token.Token.{Token}
use Rattle.ots_tree.specs.Kept.{beside}
use Rattle.ots_tree.specs.PendingWalk.{walked}
use Rattle.ots_tree.specs.declared.pending.PendingAt.{PendingAt}
use Rattle.ots_pending.specs.declared.kept_pair.KeptPair.{KeptPair}
use Rattle.ots_pending.specs.declared.listing.Listing.{Listing}
use Rattle.ots_pending.specs.Distinct.{AreDistinct}
use Rattle.ots_pending.specs.Pairs.{PairAt, asked_by, is_same, pairs_of}

-- the key of a pair: the number of its message in eight bytes, and its URI
abbrev pub key_of : ℕ → List ℕ → List ℕ
key_of number uri = to_le_bytes w64 number ++ uri

abbrev pub key : KeptPair → List ℕ
key a = key_of a.message a.uri

-- the pair, where the messages have these numbers
abbrev pub pair_in : List (List ℕ) → KeptPair → PairAt
pair_in messages a = record {
  pair = record { uri = a.uri; message = slice_index_or messages a.message [] };
  depth = a.depth;
}

abbrev pub pairs_in : Listing → List PairAt
pairs_in l = map (pair_in l.messages) l.asked.items

pub record IsKept (l : Listing) : Type 0 where
  pub messages : AreDistinct l.messages
  pub keys : AreDistinct l.keys
  pub keys_are : l.keys ≡ map key l.asked.items
  pub in_range : (i : ℕ) (a : KeptPair) → slice_get l.asked.items i ≡ Some a → a.message < length l.messages
  pub fits : (i : ℕ) (a : KeptPair) → slice_get l.asked.items i ≡ Some a → a.message < 2 ^ 64

-- a pair that is as deep as this at least
abbrev pub deepened : ℕ → KeptPair → KeptPair
deepened depth a = record { uri = a.uri; message = a.message; depth = max a.depth depth }

-- so is the one at a place
abbrev pub raised_at : List KeptPair → ℕ → ℕ → List KeptPair
raised_at [] i depth = []
raised_at (a ∷ others) zero depth = deepened depth a ∷ others
raised_at (a ∷ others) (suc i) depth = a ∷ raised_at others i depth

-- a pair that is put at a place: after the others, or it makes the one that is there as deep
abbrev pub put_at : List KeptPair → ℕ → KeptPair → List KeptPair
put_at kept place a = if nat_lt place (length kept) then raised_at kept place a.depth else kept ++ a ∷ []

-- where the first pair is the second too, this is as deep as the deeper one
abbrev pub raised : PairAt → PairAt → PairAt
raised p q = if is_same p.pair q.pair then record { pair = q.pair; depth = max q.depth p.depth } else q

-- one more pair: raised where it is among them, else the last one
abbrev pub with_pair : PairAt → List PairAt → List PairAt
with_pair p qs = if list_any (λ q. is_same p.pair q.pair) qs then map (raised p) qs else qs ++ p ∷ []

abbrev pub pair_at : PendingAt → PairAt
pair_at x = record { pair = asked_by x; depth = x.depth }

-- with what these pending paths ask for
abbrev pub with_found : List PendingAt → List PairAt → List PairAt
with_found [] qs = qs
with_found (x ∷ xs) qs = with_found xs (with_pair (pair_at x) qs)

-- One more pair is kept.
pub record Adds (old new : Listing) (p : PairAt) : Type 0 where
  pub kept : IsKept new
  pub messages : new.messages ≡ old.messages
  pub added : pairs_in new ≡ with_pair p (pairs_in old)

-- the pairs that a walk over these tokens comes to, from a digest
abbrev pub pairs_walked : List Token → List ℕ → List ℕ → List PairAt
pairs_walked tokens depths digest = pairs_of (walked 0 (digest ∷ []) (beside tokens depths))
