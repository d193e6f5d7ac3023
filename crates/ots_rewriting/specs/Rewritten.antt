-- What `canon` and `prune` make of a proof.
use Rattle.std.specs.Prelude.{◌≡◌, ℕ, List, Option}
use Rattle.ots_tree.specs.declared.detached.Detached.{Detached}
use Rattle.ots_tree.specs.declared.token.Token.{Token}
use Rattle.ots_canon.specs.Canonical.{IsCanonOf}
use Rattle.ots_canon.specs.Prune.{IsPruneOf}
use Rattle.ots_client_endings.specs.Ending.{Ending}
use Rattle.ots_client_endings.specs.Reading.{WithProof}
use Rattle.ots_client_endings.specs.Writing.{WritesOf}
use Rattle.ots_outside.specs.Shelf.{Names}
use Rattle.ots_rewriting.specs.declared.rewriting.Rewriting.{Rewriting}
use Rattle.ots_rewriting.specs.declared.rewriting.Rewriting.TheVariants.{Canon, Prune}

-- the second tree is the canonical form of the first, or what pruning keeps of it, both seen as their tokens
abbrev pub IsTreeOf : Rewriting → List Token → List Token → Type 0
IsTreeOf Canon ts us = IsCanonOf ts us
IsTreeOf Prune ts us = IsPruneOf ts us

-- the second proof is of the same digest, with that tree
pub record IsRewritten (way : Rewriting) (p r : Detached) : Type 0 where
  pub hash : r.hash ≡ p.hash
  pub digest : r.digest ≡ p.digest
  pub tree : IsTreeOf way p.tree r.tree

-- The proof is read, and that is written.
abbrev pub Rewrites : Rewriting → Option Names → List ℕ → List ℕ → Ending → Type 0
Rewrites way told from to = WithProof told from (λ p. WritesOf to (IsRewritten way p))
