-- Rounds, one after another, and why a run makes no more.
use Rattle.std.specs.Prelude.{◌≡◌, ◌<◌, ◌⊎◌, ℕ, true, List, [], ◌∷◌, ◌++◌, length, Option}
use Rattle.std.specs.List.{AllByRecursion, flat_map}
use Rattle.ots_address.specs.Address.{AddressParts}
use Rattle.ots_journal.specs.declared.entry.Entry.{Entry}
use Rattle.ots_journal.specs.Image.{Stands}
use Rattle.ots_journal.specs.Journal.{JournalTold, size_with}
use Rattle.ots_mirror_words.specs.Lines.{round_line}
use Rattle.ots_mirror_words.specs.declared.outcome.RoundOutcome.{RoundOutcome}
use Rattle.ots_mirror_words.specs.declared.outcome.RoundOutcome.TheVariants.{Current}
use Rattle.ots_mirror_words.specs.declared.status.MirrorStatus.{MirrorStatus}
use Rattle.ots_mirror_words.specs.declared.status.MirrorStatus.TheVariants.{Done, Behind, Full, DiskFault, OutOfMemory}
use Rattle.ots_mirror_words.specs.declared.status.MirrorStatus.TheVariants.{WriteFault}
use Rattle.ots_outside.specs.Dialer.{DialerTold}
use Rattle.ots_outside.specs.Streams.{Takes, TakesPrefix}
use Rattle.ots_store.specs.Order.{records_of}
use Rattle.ots_opening.specs.Images.{StandsAfter}
use Rattle.ots_mirror.specs.Asking.{AsksInVain, HasRound}
use Rattle.ots_mirror.specs.Group.{FitsLimit, gate_with}
use Rattle.ots_mirror.specs.Round.{TakesGroup}

-- What a journal holds: its entries, and the place of the closed gate after them.
pub record Held : Type 0 where
  pub entries : List Entry
  pub gate : ℕ

abbrev pub held_in : {D : Type 0} → JournalTold D → Held
held_in j = record { entries = j.entries; gate = j.gate }

abbrev pub with_group : Held → List Entry → Held
with_group held group = record { entries = held.entries ++ group; gate = gate_with held.gate group }

-- These rounds were made in order over what was held. Each adds the entries that it takes, which fit the limit.
abbrev pub Rounds : {T : Type 0} → (T → DialerTold) → (T → ℕ) → AddressParts → ℕ → Held → T → T
    → List RoundOutcome → Held → Type 0
Rounds told faults address limit held old new [] now = (new ≡ old) × (now ≡ held)
Rounds {T} told faults address limit held old new (outcome ∷ outcomes) now = (mid : T) × (group : List Entry)
    × HasRound told faults address (records_of held.entries) old mid outcome group
    × FitsLimit limit held.gate group
    × Rounds told faults address limit (with_group held group) mid new outcomes now

-- the mirror may lack records
abbrev pub IsBehind : RoundOutcome → Type 0
IsBehind outcome = outcome ≡ Current → ⊥

abbrev pub AreBehind : List RoundOutcome → Type 0
AreBehind outcomes = AllByRecursion IsBehind outcomes

-- a line for each round
abbrev pub round_lines : List RoundOutcome → List ℕ
round_lines outcomes = flat_map round_line outcomes

-- How rounds end: the status, what came of each, and what the journal then holds.
pub record End : Type 0 where
  pub status : MirrorStatus
  pub outcomes : List RoundOutcome
  pub held : Held

-- A round more stops the run: the page's entries do not fit the limit; or the disk failed while they were added; or
-- memory ran out.
pub data StopsRun {T : Type 0} (told : T → DialerTold) (faults : T → ℕ) (address : AddressParts) (limit : ℕ)
    (disk : Type 0) (held : Held) (old new : T) (s : MirrorStatus) : Type 0 where
  full : (group : List Entry) → TakesGroup (HasRound told faults address (records_of held.entries) old new) group
      → limit < size_with held.gate group → s ≡ Full (size_with held.gate group) limit
      → StopsRun told faults address limit disk held old new s
  disk_failed : (group : List Entry)
      → TakesGroup (HasRound told faults address (records_of held.entries) old new) group → disk → s ≡ DiskFault
      → StopsRun told faults address limit disk held old new s
  no_memory : AsksInVain told faults address (records_of held.entries) old new → s ≡ OutOfMemory
      → StopsRun told faults address limit disk held old new s

-- Up to so many rounds are made: the first that is current is the last; or all are made, and none is; or one stops the
-- run; or the line of one could not be printed.
pub data MakesRounds {T : Type 0} (told : T → DialerTold) (faults : T → ℕ) (address : AddressParts) (limit : ℕ)
    (disk sink : Type 0) (rounds : ℕ) (found : Held) (old new : T) (e : End) : Type 0 where
  current : (before : List RoundOutcome) → AreBehind before → length before < rounds
      → Rounds told faults address limit found old new (before ++ Current ∷ []) e.held
      → e.outcomes ≡ before ++ Current ∷ [] → e.status ≡ Done
      → MakesRounds told faults address limit disk sink rounds found old new e
  behind : AreBehind e.outcomes → length e.outcomes ≡ rounds
      → Rounds told faults address limit found old new e.outcomes e.held → e.status ≡ Behind
      → MakesRounds told faults address limit disk sink rounds found old new e
  stops : AreBehind e.outcomes → length e.outcomes < rounds → (mid : T)
      → Rounds told faults address limit found old mid e.outcomes e.held
      → StopsRun told faults address limit disk e.held mid new e.status
      → MakesRounds told faults address limit disk sink rounds found old new e
  not_printed : (before : List RoundOutcome) (last : RoundOutcome) → AreBehind before → length before < rounds → sink
      → Rounds told faults address limit found old new (before ++ last ∷ []) e.held
      → e.outcomes ≡ before ++ last ∷ [] → e.status ≡ WriteFault
      → MakesRounds told faults address limit disk sink rounds found old new e

-- Each image stands for what the journal holds; where the disk failed, for entries that begin with it.
abbrev pub AreLeft : (List ℕ → Type 0) → MirrorStatus → List Entry → Type 0
AreLeft images s entries = ((c : List ℕ) → images c → Stands c entries)
    ⊎ ((s ≡ DiskFault) × ((c : List ℕ) → images c → StandsAfter entries c))

-- The lines are printed, or the sink failed, which is then the status.
abbrev pub LinesPrinted : Type 0 → MirrorStatus → List RoundOutcome → Option (List ℕ) → Option (List ℕ) → Type 0
LinesPrinted sink s outcomes taken now = Takes taken now (round_lines outcomes)
    ⊎ (sink × TakesPrefix taken now (round_lines outcomes) × (s ≡ WriteFault))

-- How rounds ended, for the code that makes them.
pub record RoundsEnd (may : End → Type 0) (images : List ℕ → Type 0) (entries : List Entry) (sink : Type 0)
    (taken now : Option (List ℕ)) (r : MirrorStatus) : Type 0 where
  pub ending : End
  pub comes : may ending
  pub status : r ≡ ending.status
  pub left : AreLeft images ending.status ending.held.entries
  pub entries_are : (entries ≡ ending.held.entries) ⊎ (ending.status ≡ DiskFault)
  pub printed : LinesPrinted sink ending.status ending.outcomes taken now

-- A sure journal holds these entries, and each image stands for them.
pub record Holds {D : Type 0} (images : D → List ℕ → Type 0) (limit : ℕ) (j : JournalTold D)
    (held : Held) : Type 0 where
  pub entries : j.entries ≡ held.entries
  pub gate : j.gate ≡ held.gate
  pub limit_is : j.limit ≡ limit
  pub sure : j.is_sure ≡ true
  pub kept : (c : List ℕ) → images j.disk c → Stands c held.entries
