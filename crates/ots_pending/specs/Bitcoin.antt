-- Paths that end in a Bitcoin attestation (python-opentimestamps, opentimestamps/core/notary.py,
-- BitcoinBlockHeaderAttestation). A proof with such a path needs no calendar any more.
use Rattle.std.specs.Prelude.{◌≡◌, ℕ, List, Bool, true, false}
use Rattle.ots_attest.specs.declared.attestation.Attestation.{Attestation}
use Rattle.ots_attest.specs.declared.attestation.Attestation.TheVariants as attestation
use Rattle.ots_tree.specs.declared.token.Token.{Token}
use Rattle.ots_tree.specs.declared.token.Token.TheVariants as token
use Rattle.ots_tree.specs.Wire.{Node, Path, paths, pre}
use Rattle.ots_canon.specs.Order.{Has}

-- Some path of the tree with these tokens ends in a Bitcoin attestation.
pub record HasBitcoin (ts : List Token) : Type 0 where
  pub node : Node
  pub are : pre node ≡ ts
  pub path : Path
  pub among : Has (paths node) path
  pub height : ℕ
  pub ends : path.end ≡ attestation.Bitcoin height

-- ---- for the code

abbrev pub is_bitcoin_end : Attestation → Bool
is_bitcoin_end (attestation.Bitcoin height) = true
is_bitcoin_end (attestation.Pending uri) = false
is_bitcoin_end (attestation.Litecoin height) = false
is_bitcoin_end (attestation.Unknown other) = false

abbrev pub is_bitcoin : Token → Bool
is_bitcoin token.Fork = false
is_bitcoin (token.Op o) = false
is_bitcoin (token.Attestation a) = is_bitcoin_end a
