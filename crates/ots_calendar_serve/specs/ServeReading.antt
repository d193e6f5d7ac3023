-- Reading what serving names, before the journal is opened. It serves the code.
use Rattle.std.specs.Prelude.{◌≡◌, ℕ, List, [], ◌∷◌, Option, Result, Ok, Err}
use Rattle.ots_outside.specs.Shelf.{Names, ShelfFaults, ShelfTold}
use Rattle.ots_calendar_inputs.specs.Address.{IsOneAddress}
use Rattle.ots_inputs.specs.Input.{RanOut}
use Rattle.ots_calendar_inputs.specs.Key.{GivesKey}
use Rattle.ots_inputs.specs.declared.error.Stop.{Stop}
use Rattle.ots_calendar_text.specs.declared.status.DaemonStatus.{DaemonStatus}
use Rattle.ots_calendar_text.specs.declared.status.DaemonStatus.TheVariants.{OutOfMemory}
use Rattle.ots_calendar_words.specs.Words.{ServingAsked}
use Rattle.ots_connection.specs.declared.service.Service.{Service}
use Rattle.ots_calendar_serve.specs.Serve.{WithService}
use Rattle.ots_calendar_endings.specs.RunEnd.{Comes, RunEnd, refused, status_of}
use Rattle.ots_calendar_endings.specs.Files.{ReadsShelf}
use Rattle.ots_inputs.specs.Under.{HasUnder}
use Rattle.ots_inputs.specs.Opened.{StopsAt}

-- what goes on is no ending
abbrev pub no_service : List ℕ → List ℕ → RunEnd → Type 0
no_service uri key e = ⊥

-- a service, or a stop at the address or the key file
abbrev pub ServiceAnswer : Option Names → ServingAsked → (List ℕ → Type 0) → Result Service (Stop DaemonStatus) → Type 0
ServiceAnswer names asked stops_at (Ok service) = IsOneAddress asked.uri service.uri
    × HasUnder names asked.key (λ bytes. GivesKey bytes service.key)
ServiceAnswer names asked stops_at (Err stop) = Comes (WithService names asked no_service) stops_at ⊥
    (refused stop.name.now (status_of stop.why))

-- What of the shelf stays, by whether memory ran out.
abbrev pub KeepsShelf : List (List ℕ) → ShelfTold → ShelfTold → ShelfFaults → ShelfFaults
    → Result Service (Stop DaemonStatus) → Type 0
KeepsShelf names old new before now r = (s : DaemonStatus) → (RanOut r → s ≡ OutOfMemory)
    → ReadsShelf names old new before now s

pub record ReadsService (asked : ServingAsked) (old new : ShelfTold) (before now : ShelfFaults)
    (r : Result Service (Stop DaemonStatus)) : Type 0 where
  pub answer : ServiceAnswer old.names asked (StopsAt (asked.key ∷ []) old.opened new.opened before now) r
  pub shelf : KeepsShelf (asked.key ∷ []) old new before now r
