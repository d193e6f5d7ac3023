-- For the code that tells what was made.
use Rattle.std.specs.Prelude.{◌≡◌, Bool}
use Rattle.ots_archive_taken.specs.Taken.{IsComplete}
use Rattle.ots_archive_taken.specs.declared.taking.Taken.{Taken}
use Rattle.ots_archive_taken.specs.declared.taking.Taken.TheVariants.{Same, Stamped, Upgraded}
use Rattle.ots_canon.specs.Join.{HaveSamePaths}
use Rattle.ots_tree.specs.declared.detached.Detached.{Detached}

-- A proof was made of a draft.
pub record IsStamped (made : Detached) (taken : Taken) : Type 0 where
  pub complete : Bool
  pub is_complete : IsComplete complete made
  pub is : taken ≡ Stamped made complete

-- A proof was made of another, unless it has no path more.
pub data IsUpgraded (old made : Detached) (taken : Taken) : Type 0 where
  no_more : (complete : Bool) → HaveSamePaths old.tree made.tree → IsComplete complete old → taken ≡ Same complete
      → IsUpgraded old made taken
  some_more : (complete : Bool) → (HaveSamePaths old.tree made.tree → ⊥) → IsComplete complete made
      → taken ≡ Upgraded made complete → IsUpgraded old made taken
