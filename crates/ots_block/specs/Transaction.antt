-- A transaction and its bytes. Source: Bitcoin Core, src/primitives/transaction.h, SerializeTransaction; BIP 144
-- for the marker, the flag and the witness; Bitcoin developer reference, "Raw Transaction Format".
use Rattle.std.specs.Prelude.{◌≡◌, ◌≤◌, ℕ, List, [], ◌∷◌, ◌++◌, length, Option, None, Some}
use Rattle.std.specs.List.{flat_map, AllByRecursion}
use Rattle.ots_headers.specs.DoubleSha256.{double_sha256}
use Rattle.ots_block.specs.declared.limits.TheConstants.{MAX_COMPACT}
use Rattle.ots_block.specs.Compact.{compact}

-- which output it spends, its script, and its sequence number
pub record Input : Type 0 where
  pub outpoint : List ℕ
  pub script : List ℕ
  pub sequence : List ℕ

-- its value and its script
pub record Output : Type 0 where
  pub value : List ℕ
  pub script : List ℕ

-- The fields as bytes, in the order in which they stand. A witness, where there is one, has a list of items for each
-- input.
pub record Transaction : Type 0 where
  pub version : List ℕ
  pub inputs : List Input
  pub outputs : List Output
  pub witness : Option (List (List (List ℕ)))
  pub lock_time : List ℕ

-- ---- the bytes

-- bytes after their number
abbrev pub sized : List ℕ → List ℕ
sized bytes = compact (length bytes) ++ bytes

-- things after their number, each with these bytes
abbrev pub counted : {A : Type 0} → (A → List ℕ) → List A → List ℕ
counted bytes things = compact (length things) ++ flat_map bytes things

abbrev pub input_bytes : Input → List ℕ
input_bytes i = i.outpoint ++ sized i.script ++ i.sequence

abbrev pub output_bytes : Output → List ℕ
output_bytes o = o.value ++ sized o.script

abbrev pub stack_bytes : List (List ℕ) → List ℕ
stack_bytes items = counted sized items

-- a marker where the number of inputs would stand, and a flag: a witness follows the outputs
abbrev pub marker_bytes : Option (List (List (List ℕ))) → List ℕ
marker_bytes None = []
marker_bytes (Some stacks) = 0 ∷ 1 ∷ []

abbrev pub witness_bytes : Option (List (List (List ℕ))) → List ℕ
witness_bytes None = []
witness_bytes (Some stacks) = flat_map stack_bytes stacks

abbrev pub body_bytes : Transaction → List ℕ
body_bytes t = counted input_bytes t.inputs ++ counted output_bytes t.outputs

unfoldable pub transaction_bytes : Transaction → List ℕ
transaction_bytes t = t.version ++ marker_bytes t.witness ++ body_bytes t ++ witness_bytes t.witness ++ t.lock_time

-- what the transaction's id is the hash of: marker, flag and witness are left out
unfoldable pub stripped : Transaction → List ℕ
stripped t = t.version ++ body_bytes t ++ t.lock_time

abbrev pub txid : Transaction → List ℕ
txid t = double_sha256 (stripped t)

-- ---- the lengths

abbrev pub IsSized : List ℕ → Type 0
IsSized bytes = length bytes ≤ MAX_COMPACT

pub record AreCounted {A : Type 0} (Is : A → Type 0) (things : List A) : Type 0 where
  pub most : length things ≤ MAX_COMPACT
  pub each : AllByRecursion Is things

pub record IsInput (i : Input) : Type 0 where
  pub outpoint : length i.outpoint ≡ 36
  pub script : IsSized i.script
  pub sequence : length i.sequence ≡ 4

pub record IsOutput (o : Output) : Type 0 where
  pub value : length o.value ≡ 8
  pub script : IsSized o.script

abbrev pub IsStack : List (List ℕ) → Type 0
IsStack items = AreCounted IsSized items

-- Without a witness there is an input, since a number of 0 inputs is the marker.
abbrev pub IsWitness : List Input → Option (List (List (List ℕ))) → Type 0
IsWitness inputs None = 1 ≤ length inputs
IsWitness inputs (Some stacks) = (length stacks ≡ length inputs) × AllByRecursion IsStack stacks

pub record IsTransaction (t : Transaction) : Type 0 where
  pub version : length t.version ≡ 4
  pub inputs : AreCounted IsInput t.inputs
  pub outputs : AreCounted IsOutput t.outputs
  pub witness : IsWitness t.inputs t.witness
  pub lock_time : length t.lock_time ≡ 4
