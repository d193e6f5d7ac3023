-- Which heights a proof confirms, path by path, and the verdict on a file's digest
-- (python-opentimestamps, opentimestamps/core/notary.py: an attestation of a block holds of a message
-- that is the block's Merkle root).
use Rattle.std.specs.Prelude.{◌≡◌, ◌≢◌, ◌≤◌, ℕ, List, Option, Some, None}
use Rattle.std.specs.List.{Contains}
use Rattle.ots_attest.specs.declared.attestation.Attestation.{Attestation}
use Rattle.ots_attest.specs.declared.attestation.Attestation.TheVariants as attestation
use Rattle.ots_tree.specs.Wire.{Node, Path, paths, pre}
use Rattle.ots_tree.specs.declared.detached.Detached.{Detached}
use Rattle.ots_headers.specs.HeaderTable.{Table, root_at, time_at}
use Rattle.ots_verdicts.specs.declared.verdicts.Chain.{Chain}
use Rattle.ots_verdicts.specs.declared.verdicts.Chain.TheVariants as chain
use Rattle.ots_verdicts.specs.declared.verdicts.Verdict.{Verdict}
use Rattle.ots_verdicts.specs.declared.verdicts.Verdict.TheVariants.{Yes, NoDigest, NoPath}
use Rattle.ots_verdicts.specs.declared.verdicts.Confirmation.{Confirmation}
use Rattle.ots_ops.specs.Value.{value}

-- the attestation that names a block of this chain
abbrev pub attests : Chain → ℕ → Attestation
attests chain.Bitcoin height = attestation.Bitcoin height
attests chain.Litecoin height = attestation.Litecoin height

-- A path confirms a height: it ends in the chain's attestation of this height, and its value from the
-- digest is the Merkle root of the header that the chain's table has there.
pub record Confirms (c : Chain) (table : Table) (digest : List ℕ) (height : ℕ) (p : Path) : Type 0 where
  pub root : List ℕ
  pub attested : p.end ≡ attests c height
  pub reached : value p.ops digest ≡ Some root
  pub given : root_at table height ≡ Some root

-- Some path of the proof's tree confirms the height.
pub record IsConfirmed (c : Chain) (table : Table) (proof : Detached) (height : ℕ) : Type 0 where
  pub node : Node
  pub tree : pre node ≡ proof.tree
  pub path : Path
  pub among : Contains (paths node) path
  pub confirms : Confirms c table proof.digest height path

abbrev pub NoneConfirmed : Chain → Table → Detached → Type 0
NoneConfirmed c table proof = (height : ℕ) → ¬ IsConfirmed c table proof height

-- It is confirmed, no lower height is, and its header has this time.
pub record IsLeastConfirmed (c : Chain) (table : Table) (proof : Detached) (height time : ℕ) : Type 0 where
  pub confirmed : IsConfirmed c table proof height
  pub least : (other : ℕ) → IsConfirmed c table proof other → height ≤ other
  pub timed : time_at table height ≡ Some time

-- The same where a table may be given. Without one no height is confirmed.
abbrev pub NoneConfirmedIn : Chain → Option Table → Detached → Type 0
NoneConfirmedIn c None proof = Unit {0}
NoneConfirmedIn c (Some table) proof = NoneConfirmed c table proof

abbrev pub IsLeastConfirmedIn : Chain → Option Table → Detached → ℕ → ℕ → Type 0
IsLeastConfirmedIn c None proof height time = ⊥
IsLeastConfirmedIn c (Some table) proof height time = IsLeastConfirmed c table proof height time

-- The verdict on a target's digest, by the headers of Bitcoin, and those of Litecoin where they are
-- given. Bitcoin comes first.
abbrev pub IsVerdict : Detached → List ℕ → Table → Option Table → Verdict → Type 0
IsVerdict proof target bitcoin litecoin (Yes chain.Bitcoin height time) =
    (target ≡ proof.digest) × IsLeastConfirmed chain.Bitcoin bitcoin proof height time
IsVerdict proof target bitcoin litecoin (Yes chain.Litecoin height time) =
    (target ≡ proof.digest) × NoneConfirmed chain.Bitcoin bitcoin proof
    × IsLeastConfirmedIn chain.Litecoin litecoin proof height time
IsVerdict proof target bitcoin litecoin NoDigest = target ≢ proof.digest
IsVerdict proof target bitcoin litecoin NoPath =
    (target ≡ proof.digest) × NoneConfirmed chain.Bitcoin bitcoin proof × NoneConfirmedIn chain.Litecoin litecoin proof

-- the verdict on a proof's own digest, by what it confirms
abbrev pub verdict_by : Option Confirmation → Verdict
verdict_by (Some c) = Yes c.chain c.height c.time
verdict_by None = NoPath

-- This is what a proof confirms: the least height of Bitcoin, else of Litecoin, else none.
abbrev pub Confirmed : Detached → Table → Option Table → Option Confirmation → Type 0
Confirmed proof bitcoin litecoin best = IsVerdict proof proof.digest bitcoin litecoin (verdict_by best)
