-- What a command makes that writes one proof.
use Rattle.std.specs.Prelude.{◌≡◌, ◌<◌, ℕ, List, [], ◌∷◌, length}
use Rattle.ots_base.specs.declared.limits.TheConstants.{MAX_PROOF_FILE}
use Rattle.ots_client_endings.specs.Ending.{Ending, makes, refused}
use Rattle.ots_client_text.specs.declared.status.Status.TheVariants.{Done, TooBig}
use Rattle.ots_detached.specs.File.{IsFileOf, file_of}
use Rattle.ots_tree.specs.declared.detached.Detached.{Detached}

-- A proof is written under a name: it is too long for a file, or the file is made.
pub data Writes (name : List ℕ) (proof : Detached) (e : Ending) : Type 0 where
  too_long : MAX_PROOF_FILE < length (file_of proof) → e ≡ refused name TooBig → Writes name proof e
  is_made : IsFileOf (file_of proof) proof → e ≡ record { status = Done; acts = makes name (file_of proof) ∷ [] }
      → Writes name proof e

-- A result is written.
abbrev pub WritesOf : List ℕ → (Detached → Type 0) → Ending → Type 0
WritesOf name IsResult e = (r : Detached) × IsResult r × Writes name r e
