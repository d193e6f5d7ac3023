-- A timestamp tree as it goes over the wire: its tokens in preorder, its bytes, and its paths.
-- Source: python-opentimestamps, opentimestamps/core/timestamp.py, Timestamp.serialize.
use Rattle.std.specs.Prelude.{◌≡◌, ℕ, List, [], ◌∷◌, ◌++◌, map}
use Rattle.std.specs.List.{flat_map}
use Rattle.ots_ops.specs.declared.op.Op.{Op}
use Rattle.ots_ops.specs.Operation.{spell as spell_op, IsOp}
use Rattle.ots_attest.specs.declared.attestation.Attestation.{Attestation}
use Rattle.ots_attest.specs.Attestation.{spell as spell_attestation, IsAttestation}
use Rattle.ots_tree.specs.declared.token.Token.{Token}
use Rattle.ots_tree.specs.declared.token.Token.TheVariants as token

-- A node is one or more items. An item is an attestation, or an operation followed by the node of
-- its result.
mutual
  pub data Node : Type 0 where
    last : Item → Node
    more : Item → Node → Node

  pub data Item : Type 0 where
    attested : Attestation → Item
    step : Op → Node → Item

-- the tokens in preorder: a fork stands before each item but the last
abbrev mutual
  pub pre : Node → List Token
  pre (last i) = pre_item i
  pre (more i t) = token.Fork ∷ (pre_item i ++ pre t)

  pub pre_item : Item → List Token
  pre_item (attested a) = token.Attestation a ∷ []
  pre_item (step o t) = token.Op o ∷ pre t

-- what tokens spell
abbrev pub spell : Token → List ℕ
spell token.Fork = 0xff ∷ []
spell (token.Op o) = spell_op o
spell (token.Attestation a) = spell_attestation a

-- what a token may hold
abbrev pub IsToken : Token → Type 0
IsToken token.Fork = Unit {0}
IsToken (token.Op o) = IsOp o
IsToken (token.Attestation a) = IsAttestation a

abbrev pub spelled : List Token → List ℕ
spelled ts = flat_map spell ts

abbrev pub bytes : Node → List ℕ
bytes t = spelled (pre t)

-- the operations from the root and the attestation at their end
pub record Path : Type 0 where
  pub ops : List Op
  pub end : Attestation

abbrev pub below : Op → Path → Path
below o p = record { ops = o ∷ p.ops; end = p.end }

-- one path for each attestation, in preorder
abbrev mutual
  pub paths : Node → List Path
  paths (last i) = paths_of_item i
  paths (more i t) = paths_of_item i ++ paths t

  pub paths_of_item : Item → List Path
  paths_of_item (attested a) = record { ops = []; end = a } ∷ []
  paths_of_item (step o t) = map (below o) (paths t)

-- some tree has these tokens
abbrev pub IsPre : List Token → Type 0
IsPre ts = (t : Node) × (pre t ≡ ts)
