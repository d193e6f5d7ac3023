-- When `upgrade` does its work: where the list, the proof and a free name are there, it is Done or No, unless the
-- result is too long for a proof file, something of the outside failed or memory ran out.
use Rattle.std.specs.Prelude.{◌≡◌, ◌<◌, ◌↔◌, Bool, IsTrue, List, length, Option, Some, None}
use Rattle.std.specs.FinMap as map
use Rattle.ots_address.specs.Address.{AddressParts}
use Rattle.ots_address.specs.AddressList.{IsListOf}
use Rattle.ots_base.specs.declared.limits.TheConstants.{MAX_PROOF_FILE}
use Rattle.ots_client_endings.specs.Outcome.{Excused}
use Rattle.ots_client_endings.specs.Outside.{Outside}
use Rattle.ots_client_endings.specs.Runs.{Moment}
use Rattle.ots_client_text.specs.Status.{complete_status}
use Rattle.ots_client_text.specs.declared.status.Status.{Status}
use Rattle.ots_client_text.specs.declared.status.Status.TheVariants.{TooBig}
use Rattle.ots_client_words.specs.Words.{Upgrading}
use Rattle.ots_completing.specs.Upgrade.{IsUpgradeOf}
use Rattle.ots_detached.specs.File.{IsFileOf, file_of}
use Rattle.ots_inputs.specs.Under.{HasUnder}
use Rattle.ots_outside.specs.Shelf.{Names}
use Rattle.ots_pending.specs.Bitcoin.{HasBitcoin}
use Rattle.ots_tree.specs.declared.detached.Detached.{Detached}
use Rattle.ots_upgrade.specs.declared.asking.AskedAt.{AskedAt}

-- The list is one, the proof is there, and the name of the result is not.
pub record CanUpgrade (names : Names) (u : Upgrading) : Type 0 where
  pub calendars : List AddressParts
  pub is_list : IsListOf u.calendars calendars
  pub proof : Detached
  pub has_proof : HasUnder (Some names) u.proof (λ bytes. IsFileOf bytes proof)
  pub absent : map.get names u.to ≡ None

-- This is what calendars made of the proof, by what happened outside in this run.
pub record IsResult (happens : Outside → Type 0) (told : Option Names) (u : Upgrading) (r : Detached) : Type 0 where
  pub outside : Outside
  pub happened : happens outside
  pub calendars : List AddressParts
  pub is_list : IsListOf u.calendars calendars
  pub proof : Detached
  pub has_proof : HasUnder told u.proof (λ bytes. IsFileOf bytes proof)
  pub asked : List AskedAt
  pub is_upgrade : IsUpgradeOf outside calendars proof asked r

-- The status of a run that can do its work: the result is made, or too long; or a fault was counted, or memory ran
-- out.
pub data Concludes (IsMade : Detached → Type 0) (old new : Moment) (r : Status) : Type 0 where
  -- the result is made: Done where some path of it ends in Bitcoin, else No
  made : (m : Detached) → IsMade m → (complete : Bool) → IsTrue complete ↔ HasBitcoin m.tree
      → r ≡ complete_status complete → Concludes IsMade old new r
  -- the result is too long for a proof file
  too_long : (m : Detached) → IsMade m → MAX_PROOF_FILE < length (file_of m) → r ≡ TooBig
      → Concludes IsMade old new r
  excused : Excused old new r → Concludes IsMade old new r
