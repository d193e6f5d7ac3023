-- A file that is a journal of version 1 or none.
use Rattle.std.specs.Prelude.{◌≡◌, ◌<◌, ◌≤◌, ℕ, List, length, Vec}
use Rattle.std.specs.declared.alloc.Global.{Global}
use Rattle.ots_journal.specs.declared.entry.Entry.{Entry}
use Rattle.ots_journal.specs.declared.errors.OldError.TheVariants as old
use Rattle.ots_journal.specs.declared.limits.TheConstants.{MAX_JOURNAL}
use Rattle.ots_journal.specs.Version1.{Refuses1, Stands1}
use Rattle.ots_calendar_text.specs.declared.status.DaemonStatus.{DaemonStatus}
use Rattle.ots_calendar_text.specs.declared.status.DaemonStatus.TheVariants.{Damaged, NotAJournal, TooBig}

-- The entries that the bytes stand for, which are no more than are read.
pub record GivesOld (bytes : List ℕ) (entries : List Entry) : Type 0 where
  pub within : length bytes ≤ MAX_JOURNAL
  pub stand : Stands1 bytes entries

abbrev pub AreOldEntries : List ℕ → Vec Entry Global → Type 0
AreOldEntries bytes entries = GivesOld bytes entries.items

-- There are more bytes than are read, whatever they hold; or no more, and they are refused for what they hold.
pub data RefusesOld (bytes : List ℕ) (s : DaemonStatus) : Type 0 where
  too_big : MAX_JOURNAL < length bytes → s ≡ TooBig → RefusesOld bytes s
  no_journal : length bytes ≤ MAX_JOURNAL → Refuses1 bytes old.NotAJournal → s ≡ NotAJournal → RefusesOld bytes s
  damaged : (place : ℕ) → length bytes ≤ MAX_JOURNAL → Refuses1 bytes (old.Damaged place) → s ≡ Damaged place
      → RefusesOld bytes s
