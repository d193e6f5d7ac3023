-- What is made without a sheet of replies, as the client makes it.
use Rattle.std.specs.Prelude.{◌≡◌, ◌≤◌, ℕ, List, length, Option, Some}
use Rattle.std.specs.List.{slice_get}
use Rattle.ots_draft.specs.Draft.{AreAddresses, IsDraftOf}
use Rattle.ots_pending.specs.Completed.{IsCompleted}
use Rattle.ots_pending.specs.Pairs.{PairAt}
use Rattle.ots_stamp.specs.Stamped.{leaves}
use Rattle.ots_stamp.specs.declared.target.Target.{Target}
use Rattle.ots_tree.specs.declared.detached.Detached.{Detached}
use Rattle.ots_tree.specs.declared.token.Token.{Token}

-- The second proof is of the same digest, and these trees for its pairs complete the first to it.
pub record IsProofWith (proof : Detached) (pairs : List PairAt) (trees : List (Option (List Token)))
    (made : Detached) : Type 0 where
  pub hash : made.hash ≡ proof.hash
  pub digest : made.digest ≡ proof.digest
  pub tree : IsCompleted proof pairs trees made.tree

-- The proof is the draft of the file at a place among these, which waits to be sent to some addresses.
pub record IsDraftAmong (targets : List Target) (i : ℕ) (t : Target) (addresses : List (List ℕ))
    (proof : Detached) : Type 0 where
  pub there : slice_get targets i ≡ Some t
  pub some : 1 ≤ length addresses
  pub urls : AreAddresses addresses
  pub draft : IsDraftOf (leaves targets) i t addresses proof
