-- What `merge` writes.
use Rattle.std.specs.Prelude.{◌≡◌, ℕ, List, [], Option}
use Rattle.ots_canon.specs.Join.{HaveOnePair, IsMergeOf}
use Rattle.ots_client_endings.specs.Ending.{Ending, refused}
use Rattle.ots_client_endings.specs.Reading.{WithProof}
use Rattle.ots_client_endings.specs.Writing.{Writes}
use Rattle.ots_client_text.specs.declared.status.Status.TheVariants.{Differs}
use Rattle.ots_outside.specs.Shelf.{Names}
use Rattle.ots_tree.specs.declared.detached.Detached.{Detached}

-- The proofs are joined and that is written, where they are of one digest; otherwise their hashes and digests are told.
pub data Merges (name : List ℕ) (first second : Detached) (e : Ending) : Type 0 where
  differ : (HaveOnePair first second → ⊥) → e ≡ refused [] (Differs first.hash first.digest second.hash second.digest)
      → Merges name first second e
  joined : (r : Detached) → IsMergeOf first second r → Writes name r e → Merges name first second e

-- Both proofs are read, one after the other, and joined.
abbrev pub Joins : Option Names → List ℕ → List ℕ → List ℕ → Ending → Type 0
Joins told first second to = WithProof told first (λ p. WithProof told second (Merges to p))
