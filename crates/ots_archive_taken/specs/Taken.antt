-- What the replies of a sheet make of a proof, as `otsarchive take` does. Source: this project's profile. Of a proof it
-- is what the client of the reference library does where calendars answer so (opentimestamps-client, otsclient/cmds.py,
-- upgrade_timestamp), and of a draft what it does there (stamp_command).
use Rattle.std.specs.Prelude.{◌≡◌, ◌<◌, ◌≤◌, ◌↔◌, ℕ, Bool, IsTrue, List, length, Option, Some}
use Rattle.ots_archive_taken.specs.Given.{AreGoodTrees, AreTreesFor}
use Rattle.ots_archive_taken.specs.declared.taking.Taken.{Taken}
use Rattle.ots_archive_taken.specs.declared.taking.Taken.TheVariants.{Stamped, Upgraded, Same, TooBig, TooFew}
use Rattle.ots_base.specs.declared.limits.TheConstants.{MAX_PROOF_FILE}
use Rattle.ots_canon.specs.Join.{HaveSamePaths}
use Rattle.ots_detached.specs.File.{file_of}
use Rattle.ots_draft.specs.Draft.{IsDraft, IsPost, IsTaken}
use Rattle.ots_ops.specs.Value.{value}
use Rattle.ots_ops.specs.declared.op.Op.{Op}
use Rattle.ots_pending.specs.Bitcoin.{HasBitcoin}
use Rattle.ots_pending.specs.Completed.{IsCompleted}
use Rattle.ots_pending.specs.Pairs.{PairAt, ArePairs}
use Rattle.ots_sheet.specs.Reply.{Answer}
use Rattle.ots_sheet.specs.declared.request.Kind.TheVariants.{Get, Post}
use Rattle.ots_tree.specs.declared.detached.Detached.{Detached}
use Rattle.ots_tree.specs.declared.token.Token.{Token}

-- whether some path of a proof ends in Bitcoin
abbrev pub IsComplete : Bool → Detached → Type 0
IsComplete complete proof = IsTrue complete ↔ HasBitcoin proof.tree

abbrev pub IsTooBig : Detached → Type 0
IsTooBig proof = MAX_PROOF_FILE < length (file_of proof)

-- ---- of a draft

-- What a draft asks for a pair: its one message is sent to the address for which the pair waits, and the draft's
-- operations are before it.
pub record IsDraftPair (proof : Detached) (ops : List Op) (p : PairAt) : Type 0 where
  pub address : List ℕ
  pub post : IsPost p.pair.uri address
  pub reached : value ops proof.digest ≡ Some p.pair.message
  pub long : length p.pair.message ≡ 32
  pub depth : p.depth ≡ length ops

-- The trees that calendars answered to a draft's message, in the order of its pairs.
pub record AreStamps (answers : List Answer) (proof : Detached) (trees : List (List Token)) : Type 0 where
  pub pairs : List PairAt
  pub are : ArePairs proof pairs
  pub good : AreGoodTrees answers Post pairs trees

-- A draft by these operations, of which at least so many trees are wanted: there are fewer; or they make a proof, which
-- is too big, or not.
pub data TakesDraft (answers : List Answer) (proof : Detached) (ops : List Op) (least : ℕ)
    (taken : Taken) : Type 0 where
  few : (trees : List (List Token)) → AreStamps answers proof trees → length trees < least
      → taken ≡ TooFew (length trees) → TakesDraft answers proof ops least taken
  stamps_too_big : (trees : List (List Token)) (made : Detached) → AreStamps answers proof trees → least ≤ length trees
      → IsTaken proof ops trees made → IsTooBig made → taken ≡ TooBig → TakesDraft answers proof ops least taken
  stamps : (trees : List (List Token)) (made : Detached) (complete : Bool) → AreStamps answers proof trees
      → least ≤ length trees → IsTaken proof ops trees made → (IsTooBig made → ⊥) → IsComplete complete made
      → taken ≡ Stamped made complete → TakesDraft answers proof ops least taken

-- ---- of another proof

-- The second proof is what calendars' answers make of the first: they complete it.
pub record IsUpgradeBy (answers : List Answer) (proof made : Detached) : Type 0 where
  pub pairs : List PairAt
  pub are : ArePairs proof pairs
  pub given : List (Option (List Token))
  pub each : AreTreesFor answers Get pairs given
  pub hash : made.hash ≡ proof.hash
  pub digest : made.digest ≡ proof.digest
  pub tree : IsCompleted proof pairs given made.tree

-- What they make of it is too big; or it has no path more, and is the same; or it is not.
pub data TakesProof (answers : List Answer) (proof : Detached) (taken : Taken) : Type 0 where
  upgrade_too_big : (made : Detached) → IsUpgradeBy answers proof made → IsTooBig made → taken ≡ TooBig
      → TakesProof answers proof taken
  same : (made : Detached) (complete : Bool) → IsUpgradeBy answers proof made → (IsTooBig made → ⊥)
      → HaveSamePaths proof.tree made.tree → IsComplete complete proof → taken ≡ Same complete
      → TakesProof answers proof taken
  upgrades : (made : Detached) (complete : Bool) → IsUpgradeBy answers proof made → (IsTooBig made → ⊥)
      → (HaveSamePaths proof.tree made.tree → ⊥) → IsComplete complete made → taken ≡ Upgraded made complete
      → TakesProof answers proof taken

-- ---- of both

-- What the replies make of a proof, where a draft wants at least so many trees.
pub data IsTakenBy (answers : List Answer) (proof : Detached) (least : ℕ) (taken : Taken) : Type 0 where
  of_draft : (ops : List Op) → IsDraft proof ops → TakesDraft answers proof ops least taken
      → IsTakenBy answers proof least taken
  of_proof : ((ops : List Op) → IsDraft proof ops → ⊥) → TakesProof answers proof taken
      → IsTakenBy answers proof least taken
