-- What a batch keeps, for its code.
use Rattle.std.specs.Prelude.{◌≡◌, ◌≤◌, ℕ, List, length}
use Rattle.ots_ops.specs.declared.op.Op.{Op}
use Rattle.ots_canon.specs.Canonical.{IsCanonOf}
use Rattle.ots_tree.specs.Made.{IsUnder}
use Rattle.ots_tree.specs.declared.token.Token.{Token}
use Rattle.ots_stamp.specs.declared.target.Target.{Target}
use Rattle.ots_stamp.specs.Stamped.{leaves}

pub record KeepsBatch (targets : List Target) (ways : List (List ℕ)) : Type 0 where
  pub ways_are : ways ≡ leaves targets
  pub least : 1 ≤ length targets
  pub most : length targets ≤ 1024

-- The second is the canonical form of the first after these operations, both seen as their tokens.
pub record IsCanonUnder (ops : List Op) (good form : List Token) : Type 0 where
  pub made : List Token
  pub under : IsUnder ops good made
  pub canon : IsCanonOf made form
