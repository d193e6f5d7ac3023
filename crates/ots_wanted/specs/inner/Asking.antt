-- For what adds the requests of a proof, pair by pair.
use Rattle.std.specs.Prelude.{◌≡◌, ◌≤◌, ℕ, List, [], ◌∷◌, Bool, true, false, Option, None, Some, count_by, filter}
use Rattle.std.specs.Prelude.{length, map, not}
use Rattle.std.specs.List.{slice_get}
use Rattle.ots_wanted.specs.Wanted.{IsNoDraft, TakesIn, address_of, is_listed, request_for, texts_of}
use Rattle.ots_draft.specs.Draft.{IsDraft, IsPost}
use Rattle.ots_ops.specs.declared.op.Op.{Op}
use Rattle.ots_pending.specs.Bitcoin.{HasBitcoin}
use Rattle.ots_pending.specs.Pairs.{PairAt}
use Rattle.ots_request_set.specs.RequestSet.{Asked}
use Rattle.ots_sheet.specs.declared.request.Kind.{Kind}
use Rattle.ots_sheet.specs.declared.request.Kind.TheVariants.{Get, Post}
use Rattle.ots_sheet.specs.Request.{RequestParts}
use Rattle.ots_tree.specs.declared.detached.Detached.{Detached}

-- how a proof is asked for
abbrev pub IsAskedBy : Bool → Detached → Option Kind → Type 0
IsAskedBy all proof None = IsNoDraft proof × HasBitcoin proof.tree × (all ≡ false)
IsAskedBy all proof (Some Get) = IsNoDraft proof × (HasBitcoin proof.tree → all ≡ true)
IsAskedBy all proof (Some Post) = (ops : List Op) × IsDraft proof ops

-- the URI names an address
abbrev pub HasAddress : Kind → List ℕ → Type 0
HasAddress Get uri = Unit {0}
HasAddress Post uri = (address : List ℕ) × IsPost uri address

-- A pair can be asked for.
pub record IsFit (kind : Kind) (p : PairAt) : Type 0 where
  pub address : HasAddress kind p.pair.uri
  pub least : 1 ≤ length p.pair.message
  pub hash_long : kind ≡ Post → length p.pair.message ≡ 32

abbrev pub AreFit : Kind → List PairAt → Type 0
AreFit kind pairs = (i : ℕ) (p : PairAt) → slice_get pairs i ≡ Some p → IsFit kind p

-- the request for a URI and a message
abbrev pub request_of : Kind → List ℕ → List ℕ → RequestParts
request_of kind uri message = record { kind = kind; url = address_of kind uri; message = message }

abbrev pub wanted_of : List (List ℕ) → Kind → List PairAt → List RequestParts
wanted_of urls kind pairs = filter (is_listed urls) (map (request_for kind) pairs)

abbrev pub others_of : List (List ℕ) → Kind → List PairAt → ℕ
others_of urls kind pairs = count_by (λ r. not (is_listed urls r)) (map (request_for kind) pairs)

-- A request is taken in, where its address is one of the URLs.
pub record TakesPair (old new : Asked) (r : RequestParts) (listed : Bool) : Type 0 where
  pub is : listed ≡ is_listed (texts_of old) r
  pub takes : TakesIn old new (filter (is_listed (texts_of old)) (r ∷ []))

-- So are the requests for pairs, and so many have another address.
pub record TakesPairs (old new : Asked) (kind : Kind) (pairs : List PairAt) (skipped : ℕ) : Type 0 where
  pub takes : TakesIn old new (wanted_of (texts_of old) kind pairs)
  pub others : skipped ≡ others_of (texts_of old) kind pairs
