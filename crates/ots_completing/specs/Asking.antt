-- What `upgrade` asks of calendars.
use Rattle.std.specs.Prelude.{ℕ, List, Option}
use Rattle.ots_address.specs.Address.{AddressParts}
use Rattle.ots_address.specs.AddressList.{IsListOf}
use Rattle.ots_client_words.specs.Words.{Upgrading}
use Rattle.ots_detached.specs.File.{IsFileOf}
use Rattle.ots_inputs.specs.Under.{HasUnder}
use Rattle.ots_outside.specs.Dialer.{DialerTold}
use Rattle.ots_outside.specs.Shelf.{Names}
use Rattle.ots_tree.specs.declared.detached.Detached.{Detached}
use Rattle.ots_upgrade.specs.Upgrading.{UpgradesUpTo}

-- Of what the proof under a name asks these calendars, some was asked in order, the last of it perhaps in part.
pub record AsksUpTo {D : Type 0} (told : D → DialerTold) (faults : D → ℕ) (names : Option Names) (u : Upgrading)
    (old new : D) : Type 0 where
  pub calendars : List AddressParts
  pub is_list : IsListOf u.calendars calendars
  pub proof : Detached
  pub is_proof : HasUnder names u.proof (λ bytes. IsFileOf bytes proof)
  pub asks : UpgradesUpTo told faults calendars proof old new
