-- What a walk keeps of the messages on its path: for the code.
use Rattle.std.specs.Prelude.{◌≡◌, ℕ, zero, suc, List, [], ◌∷◌, ◌++◌, drop, Option, None, Some}
use Rattle.std.specs.List.{slice_get}
use Rattle.ots_tree.specs.declared.token.Token.{Token}
use Rattle.ots_tree.specs.PendingWalk.{added, followed, walked}
use Rattle.ots_tree.specs.Kept.{beside}
use Rattle.ots_tree.specs.declared.pending.PendingAt.{PendingAt}
use Rattle.ots_pending.specs.declared.listing.Listing.{Listing}
use Rattle.ots_pending.specs.declared.path.Path.{Path}
use Rattle.ots_pending.specs.Distinct.{AreDistinct, IsNumbered}
use Rattle.ots_pending.specs.Pairs.{pairs_of}
use Rattle.ots_pending.specs.Listed.{pairs_in, with_found, IsKept}

-- a message on the path has this number
pub record HasNumber (messages path : List (List ℕ)) (depth number : ℕ) : Type 0 where
  pub message : List ℕ
  pub here : slice_get path depth ≡ Some message
  pub there : slice_get messages number ≡ Some message

-- the numbers that are noted at the depths of the path are those of its messages
abbrev pub AreNumbers : List (List ℕ) → Path → Type 0
AreNumbers messages path = (depth number : ℕ) → slice_get path.numbers.items depth ≡ Some (Some number)
    → HasNumber messages path.messages depth number

-- each message keeps its number
abbrev pub AreStill : List (List ℕ) → List (List ℕ) → Type 0
AreStill old new = (i : ℕ) (m : List ℕ) → slice_get old i ≡ Some m → slice_get new i ≡ Some m

-- the number of the message at a depth, where there is one
abbrev pub IsNumberAt : List (List ℕ) → List (List ℕ) → ℕ → Option ℕ → Type 0
IsNumberAt messages path depth None = slice_get path depth ≡ None
IsNumberAt messages path depth (Some number) = HasNumber messages path depth number

-- The message at a depth of the path has this number among the new ones.
pub record IsFound (old new path : List (List ℕ)) (depth number : ℕ) : Type 0 where
  pub message : List ℕ
  pub here : slice_get path depth ≡ Some message
  pub distinct : AreDistinct new
  pub numbered : IsNumbered old new message number

-- Or there is none, and none is added.
abbrev pub FindsNumber : List (List ℕ) → List (List ℕ) → List (List ℕ) → ℕ → Option ℕ → Type 0
FindsNumber old new path depth None = (slice_get path depth ≡ None) × (new ≡ old)
FindsNumber old new path depth (Some number) = IsFound old new path depth number

-- The message at a depth has a number.
pub record Numbers (old_messages new_messages : List (List ℕ)) (old new : Path) (depth : ℕ)
    (number : Option ℕ) : Type 0 where
  pub distinct : AreDistinct new_messages
  pub still : AreStill old_messages new_messages
  pub path : new.messages ≡ old.messages
  pub numbers : AreNumbers new_messages new
  pub is : IsNumberAt new_messages new.messages depth number

-- What a token at a depth adds is noted.
pub record Notes (old new : Listing) (old_path new_path : Path) (x : Token) (depth : ℕ) : Type 0 where
  pub kept : IsKept new
  pub path : new_path.messages ≡ old_path.messages
  pub numbers : AreNumbers new.messages new_path
  pub pairs : (n : ℕ) → pairs_in new ≡ with_found (added x depth n old_path.messages) (pairs_in old)

-- these numbers, with one at a depth, where this is among them
abbrev pub kept_at : List (Option ℕ) → ℕ → ℕ → List (Option ℕ)
kept_at [] depth number = []
kept_at (x ∷ xs) zero number = Some number ∷ xs
kept_at (x ∷ xs) (suc depth) number = x ∷ kept_at xs depth number

-- The path goes on after a token at a depth.
pub record Follows (x : Token) (depth : ℕ) (old new : Path) : Type 0 where
  pub messages : new.messages ≡ followed x depth old.messages
  pub numbers : (all : List (List ℕ)) → AreNumbers all old → AreNumbers all new

-- A walk has come to a token: the pairs are those of the pending paths found, and those that the tokens left add
-- follow.
pub record IsOnWay (tokens : List Token) (depths : List ℕ) (at : ℕ) (path : List (List ℕ)) (l : Listing)
    (digest : List ℕ) : Type 0 where
  pub ended : ℕ
  pub found : List PendingAt
  pub left : found ++ walked ended path (drop at (beside tokens depths)) ≡ walked 0 (digest ∷ []) (beside tokens depths)
  pub pairs : pairs_in l ≡ pairs_of found
