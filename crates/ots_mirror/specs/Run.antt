-- A whole run.
use Rattle.std.specs.Prelude.{◌≡◌, ℕ, Bool, List, [], ◌++◌, length, Option, Some, None}
use Rattle.ots_address.specs.Address.{AddressParts}
use Rattle.ots_address.specs.OneAddress.{IsOneAddress, IsNotOneAddress}
use Rattle.ots_address.specs.declared.list.AddressError.{AddressError}
use Rattle.ots_address.specs.declared.list.AddressError.TheVariants as address
use Rattle.ots_journal.specs.declared.limits.TheConstants.{MAX_JOURNAL}
use Rattle.ots_mirror_words.specs.Words.{Mirroring}
use Rattle.ots_mirror_words.specs.declared.outcome.RoundOutcome.{RoundOutcome}
use Rattle.ots_mirror_words.specs.declared.status.MirrorStatus.{MirrorStatus}
use Rattle.ots_mirror_words.specs.declared.status.MirrorStatus.TheVariants.{Usage, WriteFault, BadAddress, OutOfMemory}
use Rattle.ots_mirror_words.specs.declared.status.MirrorStatus.TheVariants.{NotAJournal, Damaged, BadRecord, Full}
use Rattle.ots_mirror_words.specs.declared.status.MirrorStatus.TheVariants.{DiskFault, OldVersion}
use Rattle.ots_opening.specs.Opening.{HasGate, HasRecords, RefusesStore}
use Rattle.ots_opening.specs.declared.errors.OpenError.{OpenError}
use Rattle.ots_opening.specs.declared.errors.OpenError.TheVariants as opening
use Rattle.ots_outputs.specs.Printed.{PrintsLastOr}
use Rattle.ots_outside.specs.Dialer.{DialerTold}
use Rattle.ots_mirror.specs.Printed.{end_text}
use Rattle.ots_mirror.specs.Rounds.{AreLeft, End, Held, MakesRounds, round_lines}

-- ---- the address

-- The word is not one address, and the status tells where, and whether `https://` stands there.
pub record RefusesAddress (word : List ℕ) (s : MirrorStatus) : Type 0 where
  pub place : ℕ
  pub https : Bool
  pub none : IsNotOneAddress word place https
  pub status : s ≡ BadAddress place https

abbrev pub address_status : AddressError → MirrorStatus
address_status (address.BadAddress place https) = BadAddress place https
address_status address.OutOfMemory = OutOfMemory

-- ---- the journal

abbrev pub open_status : OpenError → MirrorStatus
open_status opening.DiskFault = DiskFault
open_status (opening.Full need limit) = Full need limit
open_status opening.OldVersion = OldVersion
open_status opening.NotAJournal = NotAJournal
open_status (opening.Damaged place) = Damaged place
open_status (opening.BadRecord index) = BadRecord index
open_status opening.OutOfMemory = OutOfMemory

-- ---- how a run ends

-- Its status, what came of each round, and what the journal holds then, where it was opened.
pub record RunEnd : Type 0 where
  pub status : MirrorStatus
  pub outcomes : List RoundOutcome
  pub held : Option Held

-- A refusal before the first round.
abbrev pub refused : MirrorStatus → RunEnd
refused s = record { status = s; outcomes = []; held = None }

abbrev pub of_rounds : End → RunEnd
of_rounds e = record { status = e.status; outcomes = e.outcomes; held = Some e.held }

-- how many records there are
abbrev pub count_in : Option Held → ℕ
count_in None = 0
count_in (Some held) = length held.entries

-- what is printed: a line for each round, and then how many records there are, or the refusal
abbrev pub text_of : RunEnd → List ℕ
text_of e = round_lines e.outcomes ++ end_text e.status (count_in e.held)

-- Each image stands for what the journal holds, where it was opened.
abbrev pub AreLeftBy : (List ℕ → Type 0) → MirrorStatus → Option Held → Type 0
AreLeftBy images s None = Unit {0}
AreLeftBy images s (Some held) = AreLeft images s held.entries

-- Rounds were made over a journal that holds this, with the calendar at this address.
abbrev pub RoundsOver : {T : Type 0} → (T → DialerTold) → (T → ℕ) → AddressParts → Type 0 → Type 0 → ℕ → Held → T → T
    → RunEnd → Type 0
RoundsOver told faults address disk sink rounds found old new e = (ending : End)
    × MakesRounds told faults address MAX_JOURNAL disk sink rounds found old new ending × (e ≡ of_rounds ending)

-- What comes of a disk whose bytes are these, where they are told: its store is not opened, for what they are, or
-- because the disk failed; or memory ran out; or rounds are made. Only then is a calendar asked.
pub data OverDisk {T : Type 0} (told : T → DialerTold) (faults : T → ℕ) (address : AddressParts)
    (bytes : Option (List ℕ)) (disk sink : Type 0) (rounds : ℕ) (old new : T) (e : RunEnd) : Type 0 where
  not_opened : (why : OpenError) → RefusesStore bytes why → new ≡ old → e ≡ refused (open_status why)
      → OverDisk told faults address bytes disk sink rounds old new e
  disk_failed : disk → new ≡ old → e ≡ refused DiskFault
      → OverDisk told faults address bytes disk sink rounds old new e
  no_memory : new ≡ old → e ≡ refused OutOfMemory → OverDisk told faults address bytes disk sink rounds old new e
  runs : (found : Held) → HasRecords bytes found.entries → HasGate bytes found.gate
      → RoundsOver told faults address disk sink rounds found old new e
      → OverDisk told faults address bytes disk sink rounds old new e

-- What comes of what the words ask for: the address is refused, or the disk is opened.
pub data OverAsked {T : Type 0} (told : T → DialerTold) (faults : T → ℕ) (bytes : Option (List ℕ))
    (disk sink : Type 0) (asked : Mirroring) (old new : T) (e : RunEnd) : Type 0 where
  bad_address : (s : MirrorStatus) → RefusesAddress asked.address s → new ≡ old → e ≡ refused s
      → OverAsked told faults bytes disk sink asked old new e
  no_address_memory : new ≡ old → e ≡ refused OutOfMemory → OverAsked told faults bytes disk sink asked old new e
  opens : (address : AddressParts) → IsOneAddress asked.address address
      → OverDisk told faults address bytes disk sink asked.rounds old new e
      → OverAsked told faults bytes disk sink asked old new e

-- What comes of words.
pub data OverWords {T : Type 0} (told : T → DialerTold) (faults : T → ℕ) (bytes : Option (List ℕ))
    (disk sink : Type 0) (asked : Option Mirroring) (old new : T) (e : RunEnd) : Type 0 where
  usage : asked ≡ None → new ≡ old → e ≡ refused Usage → OverWords told faults bytes disk sink asked old new e
  no_words_memory : new ≡ old → e ≡ refused OutOfMemory → OverWords told faults bytes disk sink asked old new e
  asks : (m : Mirroring) → asked ≡ Some m → OverAsked told faults bytes disk sink m old new e
      → OverWords told faults bytes disk sink asked old new e

-- The words have one address.
abbrev pub NamesOne : Option Mirroring → Type 0
NamesOne asked = (m : Mirroring) × (asked ≡ Some m)
    × ((address : AddressParts) × IsOneAddress m.address address)

-- How a run ended: it came to an ending, whose text was printed, and the images that the disk may leave stand for what
-- the journal holds then.
pub record Ends (may : RunEnd → Type 0) (images : List ℕ → Type 0) (printing : Type 0)
    (taken now : Option (List ℕ)) (r : MirrorStatus) : Type 0 where
  pub ending : RunEnd
  pub comes : may ending
  pub left : AreLeftBy images ending.status ending.held
  pub printed : PrintsLastOr WriteFault printing ending.status (text_of ending) taken now r
