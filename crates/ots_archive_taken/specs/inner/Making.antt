-- For the code that makes a proof.
use Rattle.std.specs.Prelude.{◌≡◌, List, Option, None, Some}
use Rattle.ots_archive_taken.specs.Taken.{IsTooBig}
use Rattle.ots_draft.specs.Draft.{IsTaken}
use Rattle.ots_ops.specs.declared.op.Op.{Op}
use Rattle.ots_pending.specs.Completed.{IsCompleted}
use Rattle.ots_pending.specs.Pairs.{PairAt}
use Rattle.ots_tree.specs.declared.detached.Detached.{Detached}
use Rattle.ots_tree.specs.declared.token.Token.{Token}

-- A proof is told, unless it is too big for a file.
abbrev pub IfFits : Detached → Option Detached → Type 0
IfFits made None = IsTooBig made
IfFits made (Some told) = (IsTooBig made → ⊥) × (told ≡ made)

-- Trees make a proof of a draft, and it is told unless it is too big.
pub record DraftMakes (proof : Detached) (ops : List Op) (trees : List (List Token))
    (result : Option Detached) : Type 0 where
  pub made : Detached
  pub taken : IsTaken proof ops trees made
  pub told : IfFits made result

-- Trees for its pairs complete a proof, and what they make is told unless it is too big.
pub record ProofMakes (proof : Detached) (pairs : List PairAt) (trees : List (Option (List Token)))
    (result : Option Detached) : Type 0 where
  pub made : Detached
  pub hash : made.hash ≡ proof.hash
  pub digest : made.digest ≡ proof.digest
  pub tree : IsCompleted proof pairs trees made.tree
  pub told : IfFits made result
