-- The pending paths of a proof, and what the calendars are to be asked for (python-opentimestamps,
-- opentimestamps/core/notary.py, PendingAttestation: a calendar is asked for the message that the
-- attestation stands on).
use Rattle.std.specs.Prelude.{◌≡◌, ℕ, ◌+◌, List, [], ◌∷◌, ◌++◌, length, Option, Some, None, IsSome}
use Rattle.std.specs.List.{AllByRecursion}
use Rattle.ots_ops.specs.Value.{value}
use Rattle.ots_attest.specs.declared.attestation.Attestation.{Attestation}
use Rattle.ots_attest.specs.declared.attestation.Attestation.TheVariants as attestation
use Rattle.ots_tree.specs.Wire.{Node, pre, Path, paths}
use Rattle.ots_tree.specs.declared.detached.Detached.{Detached}
use Rattle.ots_tree.specs.declared.pending.PendingAt.{PendingAt}

-- What is asked for at the end of a path, of its number, the number of its operations, its
-- attestation and its message: something where the attestation is pending, else nothing.
abbrev pub asked : ℕ → ℕ → Attestation → Option (List ℕ) → List PendingAt
asked n d (attestation.Pending uri) (Some m) = record { path = n; depth = d; uri = uri; message = m } ∷ []
asked n d (attestation.Pending uri) None = []
asked n d (attestation.Bitcoin height) m = []
asked n d (attestation.Litecoin height) m = []
asked n d (attestation.Unknown other) m = []

-- for each of these paths in order, of which the first has the number n, from a digest
abbrev pub pending_from : List ℕ → ℕ → List Path → List PendingAt
pending_from digest n [] = []
pending_from digest n (p ∷ ps) = asked n (length p.ops) p.end (value p.ops digest) ++ pending_from digest (n + 1) ps

-- These are the pending paths of a proof. The operations of each of its paths have a value from its
-- digest, so that none is left out.
pub record ArePending (proof : Detached) (found : List PendingAt) : Type 0 where
  pub node : Node
  pub tree : pre node ≡ proof.tree
  pub valued : AllByRecursion (λ p. IsSome (value p.ops proof.digest)) (paths node)
  pub are : found ≡ pending_from proof.digest 0 (paths node)
