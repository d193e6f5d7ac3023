-- Rounds that were served so far, for the code.
use Rattle.std.specs.Prelude.{◌≡◌, ℕ, List, length, Option, MatchOption}
use Rattle.std.specs.List.{AllByRecursion}
use Rattle.ots_address.specs.Address.{AddressParts}
use Rattle.ots_gateway_words.specs.declared.status.GateStatus.{GateStatus}
use Rattle.ots_outside.specs.Streams.{Takes}
use Rattle.ots_gateway_run.specs.Rounds.{Gathered, LinesPrinted, Moment, Outside, Passes, Rounds, RoundsEnd, Serves}
use Rattle.ots_gateway_run.specs.Rounds.{left_of}
use Rattle.ots_gateway_run.specs.Rounds.{lines_of, links_of}

-- a round has as many links as it may have
abbrev pub IsFull : {L : Type 0} → ℕ → Gathered L → Type 0
IsFull most r = length r.links ≡ most

-- Full rounds were served, and their lines printed.
pub record Going {A L D : Type 0} (o : Outside A L D) (calendars : List AddressParts) (least most : ℕ)
    (first now : Moment A D) (before taken : Option (List ℕ)) : Type 0 where
  pub rounds : List (Gathered L)
  pub full : AllByRecursion (IsFull most) rounds
  pub serves : Rounds o calendars least rounds first.dialer now.dialer first.nonces now.nonces
  pub passes : Passes o (links_of rounds) (left_of rounds) first.accepter now.accepter
  pub prints : Takes before taken (lines_of calendars rounds)

-- How rounds ended, and what was printed.
abbrev pub Ended : {A L D : Type 0} → Outside A L D → List AddressParts → ℕ → ℕ → Option ℕ → Type 0 → Moment A D
    → Moment A D → Option (List ℕ) → Option (List ℕ) → GateStatus → Type 0
Ended o calendars least most until printing first now before taken s = (e : RoundsEnd) × (e.status ≡ s)
    × Serves o calendars least most until printing first now e
    × LinesPrinted printing e before taken

-- The run is over with this status, or goes on.
abbrev pub Steps : {A L D : Type 0} → Outside A L D → List AddressParts → ℕ → ℕ → Option ℕ → Type 0 → Moment A D
    → Option (List ℕ) → Moment A D → Option (List ℕ) → Option GateStatus → Type 0
Steps o calendars least most until printing first before new taken r = MatchOption r
    (Going o calendars least most first new before taken)
    (Ended o calendars least most until printing first new before taken)
