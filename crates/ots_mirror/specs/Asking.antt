-- A round: the calendar is asked for the page at the count of records held, in a conversation of its own.
use Rattle.std.specs.Prelude.{◌≡◌, ◌⊎◌, ℕ, List, length}
use Rattle.ots_address.specs.Address.{AddressParts}
use Rattle.ots_base.specs.Cause.{Rose}
use Rattle.ots_conversation.specs.Conversation.{KeepsTold, Query, Sends, WhereTold}
use Rattle.ots_http.specs.declared.asking.Asked.TheVariants as asked
use Rattle.ots_journal.specs.declared.entry.Entry.{Entry}
use Rattle.ots_mirror_words.specs.declared.outcome.RoundOutcome.{RoundOutcome}
use Rattle.ots_mirror_words.specs.declared.outcome.RoundOutcome.TheVariants.{Unreachable}
use Rattle.ots_outside.specs.Dialer.{DialerTold, next_reply}
use Rattle.ots_store.specs.Order.{AreRecords}
use Rattle.ots_store.specs.Records.{Record}
use Rattle.ots_mirror.specs.Round.{IsCounted, IsRound}

abbrev pub query_for : AddressParts → List Record → Query
query_for address records = record { address = address; asked = asked.Records (length records) }

-- A round over these records: the request is sent, and of the reply to it comes this outcome, by which this group is
-- taken. It is unreachable only where the dialer's count of faults rose.
pub record HasRound {T : Type 0} (told : T → DialerTold) (faults : T → ℕ) (address : AddressParts)
    (records : List Record) (old new : T) (outcome : RoundOutcome) (group : List Entry) : Type 0 where
  pub sends : Sends told faults (query_for address records) (outcome ≡ Unreachable) old new
  pub outcome_is : WhereTold (told old) (λ sent replies. IsRound records (next_reply replies) outcome group)
  pub cause : outcome ≡ Unreachable → Rose (faults old) (faults new)
  pub follow : AreRecords records group
  pub counted : IsCounted outcome group

-- Memory ran out: before a conversation began, or in it, or after it.
abbrev pub AsksInVain : {T : Type 0} → (T → DialerTold) → (T → ℕ) → AddressParts → List Record → T → T → Type 0
AsksInVain told faults address records old new = KeepsTold told faults old new
    ⊎ Sends told faults (query_for address records) (Rose (faults old) (faults new)) old new
