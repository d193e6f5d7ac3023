-- Rounds, one after another, and why a run serves no more.
use Rattle.std.specs.Prelude.{◌≡◌, ◌≤◌, ◌⊎◌, ℕ, ◌+◌, List, [], ◌∷◌, ◌++◌, length, map, Option}
use Rattle.std.specs.List.{flat_map}
use Rattle.ots_address.specs.Address.{AddressParts}
use Rattle.ots_base.specs.Cause.{Rose}
use Rattle.ots_gateway.specs.Round.{EachMayServe, IsRound, NoncesSeen}
use Rattle.ots_gateway.specs.declared.served.GateServed.{GateServed}
use Rattle.ots_gateway.specs.declared.served.GateServed.TheVariants.{Stamped, Replied, Closed, LinkFault}
use Rattle.ots_gateway_words.specs.Lines.{round_lines}
use Rattle.ots_gateway_words.specs.declared.status.GateStatus.{GateStatus}
use Rattle.ots_gateway_words.specs.declared.status.GateStatus.TheVariants as status
use Rattle.ots_http.specs.Seen.{LinkSeen}
use Rattle.ots_outside.specs.Dialer.{DialerTold}
use Rattle.ots_outside.specs.Link.{LinkTold}
use Rattle.ots_outside.specs.Streams.{Takes, TakesPrefix}
use Rattle.ots_asking.specs.declared.outcome.Outcome.{Outcome}
use Rattle.ots_gateway_run.specs.Accepted.{AreFresh, Comes, GivesAllBack, IsOver, counted}

-- ---- what is outside

-- What accepter, links and dialer tell, and how often each has failed.
pub record Outside (A L D : Type 0) : Type 0 where
  pub coming : A → Option (List L)
  pub returned : A → Option (List L)
  pub accepted : A → ℕ
  pub accept_faults : A → ℕ
  pub link_told : L → Option LinkTold
  pub link_faults : L → ℕ
  pub told : D → DialerTold
  pub dial_faults : D → ℕ

-- accepter, dialer and nonces at one moment
pub record Moment (A D : Type 0) : Type 0 where
  pub accepter : A
  pub dialer : D
  pub nonces : NoncesSeen

-- what is seen of a link
abbrev pub seen : {A L D : Type 0} → Outside A L D → L → LinkSeen
seen o link = record { told = o.link_told link; faults = o.link_faults link }

-- ---- rounds

-- A round of a run: its links as they were accepted, and as they were given back, how each was served, and what came
-- of asking each calendar.
pub record Gathered (L : Type 0) : Type 0 where
  pub links : List L
  pub left : List L
  pub served : List GateServed
  pub outcomes : List Outcome

abbrev pub links_of : {L : Type 0} → List (Gathered L) → List L
links_of rounds = flat_map (λ r. r.links) rounds

abbrev pub left_of : {L : Type 0} → List (Gathered L) → List L
left_of rounds = flat_map (λ r. r.left) rounds

-- how many links of a round were stamped
abbrev pub stamped : List GateServed → ℕ
stamped [] = 0
stamped (Stamped tree ∷ served) = stamped served + 1
stamped (Replied status ∷ served) = stamped served
stamped (Closed ∷ served) = stamped served
stamped (LinkFault ∷ served) = stamped served

-- what is printed of rounds
abbrev pub lines_of : {L : Type 0} → List AddressParts → List (Gathered L) → List ℕ
lines_of calendars rounds = flat_map (λ r. round_lines calendars r.outcomes (stamped r.served)) rounds

-- One round, from before its links are read to after they are answered.
abbrev pub IsRoundOf : {A L D : Type 0} → Outside A L D → List AddressParts → ℕ → Gathered L → D → D → NoncesSeen
    → NoncesSeen → Type 0
IsRoundOf o calendars least r old new nonces after = IsRound o.told o.dial_faults calendars least
    (map (seen o) r.links) (map (seen o) r.left) nonces after old new r.served r.outcomes

-- Rounds were served, one after another.
abbrev pub Rounds : {A L D : Type 0} → Outside A L D → List AddressParts → ℕ → List (Gathered L) → D → D → NoncesSeen
    → NoncesSeen → Type 0
Rounds o calendars least [] old new nonces after = (new ≡ old) × (after ≡ nonces)
Rounds {D = D} o calendars least (r ∷ rounds) old new nonces after = (mid : D) × (between : NoncesSeen)
    × IsRoundOf o calendars least r old mid nonces between
    × Rounds o calendars least rounds mid new between after

-- The links of one round after another: each but the last has so many, and the last at least one and no more.
abbrev pub AreFull : {L : Type 0} → ℕ → List (List L) → Type 0
AreFull most [] = Unit {0}
AreFull most (links ∷ []) = (1 ≤ length links) × (length links ≤ most)
AreFull most (links ∷ next ∷ rest) = (length links ≡ most) × AreFull most (next ∷ rest)

-- These links were accepted, in order, and these were given back, in order.
pub record Passes {A L D : Type 0} (o : Outside A L D) (links left : List L) (old new : A) : Type 0 where
  pub comes : Comes links (o.coming old) (o.coming new)
  pub fresh : AreFresh o.link_told o.link_faults links
  pub count : o.accepted new ≡ counted (o.accepted old) (length links)
  pub returned : GivesAllBack (o.returned old) left (o.returned new)
  pub later : o.accept_faults old ≤ o.accept_faults new

-- ---- how they end

-- how a run over rounds ends, and what is printed of it
pub record RoundsEnd : Type 0 where
  pub status : GateStatus
  pub lines : List ℕ

-- Rounds are served of up to so many links each. They end where no link is to come or as many were accepted as were
-- asked for; or an accept failed, and the links that were accepted before are served; or the lines of the last could
-- not be printed; or memory ran out in one more, whose links are given back with nothing, a whole reply or, where the
-- link failed, a prefix of it.
pub data Serves {A L D : Type 0} (o : Outside A L D) (calendars : List AddressParts) (least most : ℕ)
    (until : Option ℕ) (printing : Type 0) (old new : Moment A D) (e : RoundsEnd) : Type 0 where
  over : (rounds : List (Gathered L)) → AreFull most (map (λ r. r.links) rounds)
      → Rounds o calendars least rounds old.dialer new.dialer old.nonces new.nonces
      → Passes o (links_of rounds) (left_of rounds) old.accepter new.accepter
      → IsOver (o.coming new.accepter) until (o.accepted new.accepter)
      → e ≡ record { status = status.Done; lines = lines_of calendars rounds }
      → Serves o calendars least most until printing old new e
  accept_failed : (rounds : List (Gathered L)) → AreFull most (map (λ r. r.links) rounds)
      → Rounds o calendars least rounds old.dialer new.dialer old.nonces new.nonces
      → Passes o (links_of rounds) (left_of rounds) old.accepter new.accepter
      → Rose (o.accept_faults old.accepter) (o.accept_faults new.accepter)
      → e ≡ record { status = status.AcceptFault; lines = lines_of calendars rounds }
      → Serves o calendars least most until printing old new e
  not_printed : (rounds : List (Gathered L)) → AreFull most (map (λ r. r.links) rounds)
      → Rounds o calendars least rounds old.dialer new.dialer old.nonces new.nonces
      → Passes o (links_of rounds) (left_of rounds) old.accepter new.accepter → printing
      → e ≡ record { status = status.WriteFault; lines = lines_of calendars rounds }
      → Serves o calendars least most until printing old new e
  no_memory : (rounds : List (Gathered L)) (links left : List L) (dialer : D) (nonces : NoncesSeen)
      → AreFull most (map (λ r. r.links) rounds ++ links ∷ [])
      → Rounds o calendars least rounds old.dialer dialer old.nonces nonces
      → Passes o (links_of rounds ++ links) (left_of rounds ++ left) old.accepter new.accepter
      → EachMayServe (map (seen o) links) (map (seen o) left)
      → e ≡ record { status = status.OutOfMemory; lines = lines_of calendars rounds }
      → Serves o calendars least most until printing old new e

-- Lines were printed whole, or the sink failed, which is then the status, and has taken a prefix of them.
abbrev pub LinesPrinted : Type 0 → RoundsEnd → Option (List ℕ) → Option (List ℕ) → Type 0
LinesPrinted printing e taken now = Takes taken now e.lines
    ⊎ (printing × TakesPrefix taken now e.lines × (e.status ≡ status.WriteFault))
