-- Reading what a batch names, before the journal is opened. It serves the code.
use Rattle.std.specs.Prelude.{◌≡◌, ℕ, List, Option, Result, Ok, Err}
use Rattle.ots_outside.specs.Shelf.{Names, ShelfFaults, ShelfTold}
use Rattle.ots_calendar_inputs.specs.Address.{IsOneAddress}
use Rattle.ots_calendar_inputs.specs.Digests.{IsDigests}
use Rattle.ots_inputs.specs.Input.{RanOut}
use Rattle.ots_calendar_inputs.specs.Key.{GivesKey}
use Rattle.ots_inputs.specs.declared.error.Stop.{Stop}
use Rattle.ots_calendar_text.specs.declared.status.DaemonStatus.{DaemonStatus}
use Rattle.ots_calendar_text.specs.declared.status.DaemonStatus.TheVariants.{OutOfMemory}
use Rattle.ots_calendar_words.specs.Words.{BatchAsked}
use Rattle.ots_calendar_batch.specs.declared.round.Round.{Round}
use Rattle.ots_calendar_batch.specs.Batch.{WithFiles, WithRound, names_of}
use Rattle.ots_calendar_endings.specs.RunEnd.{Comes, RunEnd, refused, status_of}
use Rattle.ots_calendar_endings.specs.Files.{ReadsShelf}
use Rattle.ots_inputs.specs.Under.{HasUnder}
use Rattle.ots_inputs.specs.Opened.{StopsAt}

-- what goes on is no ending
abbrev pub nothing : List ℕ → List (List ℕ) → RunEnd → Type 0
nothing key digests e = ⊥

abbrev pub no_round : List ℕ → List ℕ → List (List ℕ) → RunEnd → Type 0
no_round uri key digests e = ⊥

-- both files are in order
pub record HasFiles (names : Option Names) (asked : BatchAsked) (round : Round) : Type 0 where
  pub has_key : HasUnder names asked.key (λ bytes. GivesKey bytes round.key)
  pub has_digests : HasUnder names asked.digests (λ bytes. IsDigests bytes round.digests.items)

-- the files' part of a round, or a stop at one of them
abbrev pub FilesAnswer : Option Names → BatchAsked → List ℕ → (List ℕ → Type 0) → Result Round (Stop DaemonStatus)
    → Type 0
FilesAnswer names asked uri stops_at (Ok round) = HasFiles names asked round × (round.uri ≡ uri)
FilesAnswer names asked uri stops_at (Err stop) = Comes (WithFiles names asked nothing) stops_at ⊥
    (refused stop.name.now (status_of stop.why))

abbrev pub RoundAnswer : Option Names → BatchAsked → (List ℕ → Type 0) → Result Round (Stop DaemonStatus) → Type 0
RoundAnswer names asked stops_at (Ok round) = HasFiles names asked round × IsOneAddress asked.uri round.uri
RoundAnswer names asked stops_at (Err stop) = Comes (WithRound names asked no_round) stops_at ⊥
    (refused stop.name.now (status_of stop.why))

-- What of the shelf stays, by whether memory ran out.
abbrev pub KeepsShelf : List (List ℕ) → ShelfTold → ShelfTold → ShelfFaults → ShelfFaults
    → Result Round (Stop DaemonStatus) → Type 0
KeepsShelf names old new before now r = (s : DaemonStatus) → (RanOut r → s ≡ OutOfMemory)
    → ReadsShelf names old new before now s

pub record ReadsFiles (asked : BatchAsked) (uri : List ℕ) (old new : ShelfTold) (before now : ShelfFaults)
    (r : Result Round (Stop DaemonStatus)) : Type 0 where
  pub answer : FilesAnswer old.names asked uri (StopsAt (names_of asked) old.opened new.opened before now) r
  pub shelf : KeepsShelf (names_of asked) old new before now r

pub record ReadsRound (asked : BatchAsked) (old new : ShelfTold) (before now : ShelfFaults)
    (r : Result Round (Stop DaemonStatus)) : Type 0 where
  pub answer : RoundAnswer old.names asked (StopsAt (names_of asked) old.opened new.opened before now) r
  pub shelf : KeepsShelf (names_of asked) old new before now r
