-- For the reader of drafts.
use Rattle.std.specs.Prelude.{ℕ, List, [], ◌∷◌}
use Rattle.ots_attest.specs.declared.attestation.Attestation.{Attestation}
use Rattle.ots_attest.specs.declared.attestation.Attestation.TheVariants.{Pending, Bitcoin, Litecoin, Unknown}
use Rattle.ots_ops.specs.declared.op.Op.{Op as Operation}
use Rattle.ots_tree.specs.declared.token.Token.{Token}
use Rattle.ots_tree.specs.declared.token.Token.TheVariants.{Fork, Op as Step, Attestation as End}
use Rattle.ots_draft.specs.Draft.{IsPost}

-- the operations at which tokens begin
abbrev pub leading : List Token → List Operation
leading [] = []
leading (Fork ∷ ts) = []
leading (Step o ∷ ts) = o ∷ leading ts
leading (End a ∷ ts) = []

-- an attestation waits to be sent
abbrev pub IsWaiting : Attestation → Type 0
IsWaiting (Pending uri) = (address : List ℕ) × IsPost uri address
IsWaiting (Bitcoin height) = ⊥
IsWaiting (Litecoin height) = ⊥
IsWaiting (Unknown other) = ⊥

-- A token is a fork, or an attestation that waits.
abbrev pub MayWait : Token → Type 0
MayWait Fork = Unit {0}
MayWait (Step o) = ⊥
MayWait (End a) = IsWaiting a
