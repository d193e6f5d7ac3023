-- Where and why bytes don't begin with a sound tree. This is no reader: it says of bytes, a place and
-- a reason whether they belong together.
use Rattle.std.specs.Prelude.{◌≡◌, ℕ, List, [], ◌∷◌, ◌++◌, length, Bool, ◌||◌, nat_lt, nat_le, Option, Some, None}
use Rattle.std.specs.List.{AllByRecursion}
use Rattle.ots_base.specs.declared.limits.TheConstants.{MAX_MESSAGE, MAX_OPERATIONS}
use Rattle.ots_base.specs.Table.{line, first_line}
use Rattle.ots_ops.specs.ResultLength.{most, made}
use Rattle.ots_tree.specs.declared.token.Token.{Token}
use Rattle.ots_tree.specs.declared.token.Token.TheVariants as token
use Rattle.ots_tree.specs.Wire.{spell, spelled, IsToken}
use Rattle.ots_tree.specs.declared.shape.Shape.{Shape}
use Rattle.ots_tree.specs.Front.{start, next_at, opened}
use Rattle.ots_reader.specs.declared.fault.Fault.{Fault}
use Rattle.ots_reader.specs.declared.fault.Reason.{Reason}
use Rattle.ots_reader.specs.declared.fault.Reason.TheVariants.{ForkFork, TooDeep, ResultTooLong}
use Rattle.ots_reader.specs.TokenFault.{token_fault}

-- Why a token can't stand at an open node, `forked` where a fork stands directly before it: the first
-- line that fits.
abbrev pub place_fault : Shape → Bool → Token → Option Reason
place_fault at forked token.Fork = first_line (line forked ForkFork ∷ [])
place_fault at forked (token.Op o) = first_line (
    line (nat_le MAX_OPERATIONS at.depth) TooDeep
    ∷ line (nat_lt MAX_MESSAGE (made o at.length) || nat_lt (most o) at.length) ResultTooLong
    ∷ [])
place_fault at forked (token.Attestation a) = None

-- These tokens are a front: some node is open after them, the last one of this length and depth.
pub record IsFront (n k : ℕ) (front : List Token) (at : Shape) (others : List Shape) (forked : Bool) : Type 0 where
  pub fits : AllByRecursion IsToken front
  pub opens : opened (start n k) front ≡ Some (record { nodes = at ∷ others; forked = forked })

-- the spelling of this token begins the bytes
pub record BeginsWith (bytes : List ℕ) (x : Token) : Type 0 where
  pub fits : IsToken x
  pub rest : List ℕ
  pub spelled : bytes ≡ spell x ++ rest

-- Why the bytes at a token's place don't go on: they begin with no token, or with one that can't stand
-- at the open node.
pub data IsReason (at : Shape) (others : List Shape) (forked : Bool) (bytes : List ℕ) (r : Reason) : Type 0 where
  no_token : ((x : Token) → BeginsWith bytes x → ⊥) → token_fault bytes ≡ Some r → IsReason at others forked bytes r
  no_place : (x : Token) → BeginsWith bytes x → next_at at others forked x ≡ None → place_fault at forked x ≡ Some r
      → IsReason at others forked bytes r

-- The fault of the bytes for a tree below a message of n bytes and k operations: a front is spelled up
-- to its place, and its reason is that of the bytes from there on.
pub record HasTreeFault (n k : ℕ) (bytes : List ℕ) (f : Fault) : Type 0 where
  pub front : List Token
  pub rest : List ℕ
  pub at : Shape
  pub others : List Shape
  pub forked : Bool
  pub is_front : IsFront n k front at others forked
  pub whole : bytes ≡ spelled front ++ rest
  pub place : f.place ≡ length (spelled front)
  pub reason : IsReason at others forked rest f.reason
