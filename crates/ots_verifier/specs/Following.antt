-- How the messages of the open nodes, and the least confirmed heights, follow the tokens of a tree.
use Rattle.std.specs.Prelude.{◌≡◌, ◌≢◌, ℕ, ◌+◌, ◌<◌, List, ◌++◌, length, Bool, false, Option, Some, IsSome, Result, Ok, Err}
use Rattle.ots_ops.specs.Apply.{apply}
use Rattle.ots_tree.specs.declared.token.Token.{Token}
use Rattle.ots_tree.specs.declared.token.Token.TheVariants as token
use Rattle.ots_tree.specs.Walk.{Position, begun, opened, open_at, IsStep}
use Rattle.ots_reader.specs.declared.fault.Fault.{Fault}
use Rattle.ots_reader.specs.declared.fault.Reason.TheVariants.{Truncated}
use Rattle.ots_reader.specs.declared.fed.Fed.{Fed}
use Rattle.ots_reader.specs.declared.fed.Fed.TheVariants.{More, Done}
use Rattle.ots_reader.specs.Held.{IsReadTo}
use Rattle.ots_reader.specs.Progress.{EndsIn}
use Rattle.ots_reader.specs.Tokens.{Tokens, begun as before_any, so_far, IsReading}
use Rattle.ots_reader.specs.TreeFault.{HasTreeFault}
use Rattle.ots_headers.specs.HeaderTable.{Table}
use Rattle.ots_verdicts.specs.declared.best.Best.{Best}
use Rattle.ots_verdicts.specs.Walked.{messages, noted, walked, nothing}
use Rattle.ots_verifier.specs.declared.following.Following.{Following}
use Rattle.ots_verifier.specs.declared.messages.TheConstants.{ROWS}

-- There is a row for what a token leads to, and a message.
abbrev pub MayCome : Token → Position (List ℕ) → Type 0
MayCome token.Fork m = (m.forked ≡ false) × (length m.others < ROWS)
MayCome (token.Op o) m = (length m.others < ROWS) × IsSome (apply o m.last)
MayCome (token.Attestation a) m = Unit {0}

-- the least heights that the attestations among these tokens of a tree on a digest confirm
abbrev pub best_in : Table → Option Table → List ℕ → List Token → Best
best_in bitcoin litecoin digest came = walked bitcoin litecoin nothing (messages digest came)

-- The messages are those after the tokens that have come of a tree on a digest, and the least heights
-- are those among them.
pub record Follows (bitcoin : Table) (litecoin : Option Table) (digest : List ℕ) (r : Tokens) (m : Position (List ℕ))
    (best : Best) : Type 0 where
  pub shape : r.shape ≡ record { length = length digest; depth = 0 }
  pub reading : IsReading r
  pub opens : opened apply (begun digest) r.came ≡ Some (open_at m)
  pub is_best : best ≡ best_in bitcoin litecoin digest r.came

-- how many bytes of memory are taken
abbrev pub reserved_by : Following → ℕ
reserved_by f = f.reader.reserved + f.messages.reserved

-- no byte has come of the tree
pub record IsFresh (f : Following) : Type 0 where
  pub reader : f.reader ≡ before_any f.reader.shape
  pub none : f.best ≡ nothing

-- the messages and the least heights, after one more token
pub record Takes (bitcoin : Table) (litecoin : Option Table) (x : Token) (m : Position (List ℕ)) (best : Best)
    (after : Position (List ℕ)) (better : Best) : Type 0 where
  pub going : Bool
  pub step : IsStep apply x m after going
  pub is_noted : better ≡ noted bitcoin litecoin x (Some m.last) best

-- these bytes more have come, and the tree goes on
pub record FollowsTo (bitcoin : Table) (litecoin : Option Table) (digest : List ℕ) (old : Tokens) (more : List ℕ)
    (new : Tokens) (m : Position (List ℕ)) (best : Best) : Type 0 where
  pub read : IsReadTo old more new
  pub follows : Follows bitcoin litecoin digest new m best

-- The tree's last byte is the one before this place of the piece.
pub record FollowsWhole (bitcoin : Table) (litecoin : Option Table) (digest : List ℕ) (old : Tokens) (piece : List ℕ)
    (used : ℕ) (best : Best) : Type 0 where
  pub tokens : List Token
  pub ends : EndsIn old.shape (so_far old) piece tokens used
  pub is_best : best ≡ best_in bitcoin litecoin digest tokens

-- What is found with a piece.
abbrev pub Finds : Table → Option Table → List ℕ → Tokens → List ℕ → Tokens → Position (List ℕ) → Best
    → Result Fed Fault → Type 0
Finds bitcoin litecoin digest old piece new m best (Ok More) = FollowsTo bitcoin litecoin digest old piece new m best
Finds bitcoin litecoin digest old piece new m best (Ok (Done used)) = FollowsWhole bitcoin litecoin digest old piece
    used best
Finds bitcoin litecoin digest old piece new m best (Err f) = HasTreeFault old.shape.length old.shape.depth
    (so_far old ++ piece) f × (f.reason ≢ Truncated)
