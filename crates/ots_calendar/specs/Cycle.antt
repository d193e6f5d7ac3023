-- The whole way of a digest, by the tree that is given for its ticket and then by the one that is answered of its
-- commitment.
use Rattle.std.specs.Prelude.{◌≡◌, ◌≤◌, ◌++◌, ℕ, List, Some, find, length}
use Rattle.ots_attest.specs.declared.attestation.Attestation.TheVariants.{Bitcoin, Pending}
use Rattle.ots_ops.specs.Value.{value}
use Rattle.ots_ops.specs.declared.op.Op.{Op}
use Rattle.ots_store.specs.Index.{least}
use Rattle.ots_store.specs.Order.{anchors_of, commits_of, covers}
use Rattle.ots_store.specs.Records.{Record}
use Rattle.ots_store.specs.declared.anchor.Anchor.{Anchor}
use Rattle.ots_tree.specs.Made.{lone}
use Rattle.ots_tree.specs.Wire.{pre}
use Rattle.ots_tree.specs.declared.token.Token.{Token}

-- The first tree has one path, which ends in a pending attestation, and the second one, which ends in that of a Bitcoin
-- block. One after the other they lead from the digest, over the commitment, to the root of the block's transactions.
pub record IsCycle (records : List Record) (digest uri commitment : List ℕ)
    (stamped completed : List Token) : Type 0 where
  -- the operations of the paths
  pub first : List Op
  pub second : List Op
  -- the least index of the commitment, and the first anchor that covers it
  pub index : ℕ
  pub anchor : Anchor
  pub index_is : least commitment (commits_of records) ≡ Some index
  pub anchor_is : find (covers index) (anchors_of records) ≡ Some anchor
  pub stamped_is : stamped ≡ pre (lone first (Pending uri))
  pub completed_is : completed ≡ pre (lone second (Bitcoin anchor.height))
  pub leads : value (first ++ second) digest ≡ Some anchor.root
  pub few : length (first ++ second) ≤ 201
