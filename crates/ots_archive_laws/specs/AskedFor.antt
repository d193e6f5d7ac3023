-- Calendars that were asked for what a proof asks for, as `ots upgrade` asks them (opentimestamps-client,
-- otsclient/cmds.py, upgrade_timestamp).
use Rattle.std.specs.Prelude.{◌≡◌, List}
use Rattle.ots_address.specs.Address.{AddressParts}
use Rattle.ots_client_endings.specs.Outside.{Outside}
use Rattle.ots_pending.specs.Pairs.{ArePairs, PairAt}
use Rattle.ots_tree.specs.declared.detached.Detached.{Detached}
use Rattle.ots_upgrade.specs.Upgrading.{AreAskedPairs, outcomes, questions}
use Rattle.ots_upgrade.specs.declared.asking.AskedAt.{AskedAt}

-- Each pair of a proof was asked for where an address has its URI as text, and this came of it.
pub record AreAskedFor (o : Outside) (calendars : List AddressParts) (proof : Detached) (pairs : List PairAt)
    (asked : List AskedAt) : Type 0 where
  pub are : ArePairs proof pairs
  pub are_asked : AreAskedPairs calendars pairs asked
  pub questions_are : o.questions ≡ questions calendars pairs
  pub outcomes_are : o.outcomes ≡ outcomes asked
