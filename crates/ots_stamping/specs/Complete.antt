-- When `stamp` does its work: where the list, the files and free names for their proofs are there, it is Done, unless
-- of what calendars answered in this run too little is good, a proof is too long, something of the outside failed or
-- memory ran out.
use Rattle.std.specs.Prelude.{◌≡◌, ◌≤◌, ◌<◌, ℕ, List, length, slice_get, Option, Some, None}
use Rattle.std.specs.FinMap as map
use Rattle.ots_address.specs.Address.{AddressParts}
use Rattle.ots_address.specs.AddressList.{IsListOf}
use Rattle.ots_base.specs.declared.limits.TheConstants.{MAX_PROOF_FILE}
use Rattle.ots_client_endings.specs.Ending.{IsStampAt}
use Rattle.ots_client_endings.specs.Outcome.{Excused}
use Rattle.ots_client_endings.specs.Outside.{Outside}
use Rattle.ots_client_endings.specs.Runs.{Moment}
use Rattle.ots_client_text.specs.Lines.{proof_name}
use Rattle.ots_client_text.specs.declared.status.Status.{Status}
use Rattle.ots_client_text.specs.declared.status.Status.TheVariants.{Done, NonceFault, TooBig, TooFew}
use Rattle.ots_client_words.specs.Words.{Stamping}
use Rattle.ots_detached.specs.File.{file_of}
use Rattle.ots_outside.specs.Shelf.{Names}
use Rattle.ots_stamp.specs.Stamped.{good_trees}
use Rattle.ots_stamp.specs.declared.target.Target.{Target}
use Rattle.ots_stamping.specs.Hashing.{AreHashed}
use Rattle.ots_stamping.specs.Stamp.{AreStampTargets}
use Rattle.ots_tree.specs.declared.detached.Detached.{Detached}

-- The list is one, each file is there and not too long, no proof is there and no two files have one name for theirs.
pub record CanStamp (names : Names) (s : Stamping) : Type 0 where
  pub calendars : List AddressParts
  pub is_list : IsListOf s.calendars calendars
  pub digests : List (List ℕ)
  pub hashed : AreHashed (Some names) s.files digests
  pub absent : (i : ℕ) (file : List ℕ) → slice_get s.files i ≡ Some file
      → map.get names (proof_name file) ≡ None
  pub distinct : (i j : ℕ) (a b : List ℕ) → slice_get s.files i ≡ Some a → slice_get s.files j ≡ Some b
      → proof_name a ≡ proof_name b → i ≡ j

-- The files were submitted to the calendars with these nonces, and this is what happened outside in this run.
pub record AreSubmitted (happens : Outside → Type 0) (told : Option Names) (s : Stamping) (o : Outside)
    (targets : List Target) : Type 0 where
  pub happened : happens o
  pub calendars : List AddressParts
  pub is_list : IsListOf s.calendars calendars
  pub digests : List (List ℕ)
  pub hashed : AreHashed told s.files digests
  pub asked : AreStampTargets o calendars digests targets

-- The status of a run that can do its work: the proofs are made, or too few answers are good, or a proof is too long;
-- or a fault was counted, or memory ran out. `drawing` says that the source of nonces counted one.
pub data Concludes (Submitted : Outside → List Target → Type 0) (least : ℕ) (drawing : Type 0) (old new : Moment)
    (r : Status) : Type 0 where
  -- enough calendars answered a good tree, and each file's proof is made
  stamped : (o : Outside) (targets : List Target) → Submitted o targets → least ≤ length (good_trees o.outcomes)
      → r ≡ Done → Concludes Submitted least drawing old new r
  too_few : (o : Outside) (targets : List Target) → Submitted o targets → length (good_trees o.outcomes) < least
      → r ≡ TooFew (length (good_trees o.outcomes)) least → Concludes Submitted least drawing old new r
  -- the proof of a file is too long for a proof file
  too_long : (o : Outside) (targets : List Target) → Submitted o targets → (i : ℕ) (p : Detached)
      → IsStampAt targets (good_trees o.outcomes) i p → MAX_PROOF_FILE < length (file_of p) → r ≡ TooBig
      → Concludes Submitted least drawing old new r
  not_drawn : drawing → r ≡ NonceFault → Concludes Submitted least drawing old new r
  excused : Excused old new r → Concludes Submitted least drawing old new r
