-- What happens outside of a run: the nonces that it draws, and what it hears of calendars.
use Rattle.std.specs.Prelude.{◌≡◌, ◌≤◌, ℕ, List, [], ◌∷◌, length, Option, Some, None}
use Rattle.ots_asking.specs.Conversation.{Converse, Question}
use Rattle.ots_asking.specs.declared.outcome.Outcome.{Outcome}
use Rattle.ots_base.specs.Cause.{Rose}
use Rattle.ots_outside.specs.Dialer.{DialerTold}
use Rattle.ots_outside.specs.Streams.{Gives}

-- ---- nonces

-- These were drawn one after the other between two states of a source of nonces, each of 16 bytes.
abbrev pub Draws : {N : Type 0} → (N → Option (List ℕ)) → List (List ℕ) → N → N → Type 0
Draws left [] old new = new ≡ old
Draws {N} left (nonce ∷ nonces) old new = (mid : N) × Gives (left old) (left mid) nonce × (length nonce ≡ 16)
    × Draws left nonces mid new

-- Some were drawn, at most `most`, and nothing is taken from the bytes to come but these.
pub record DrawsSome {N : Type 0} (left : N → Option (List ℕ)) (most : ℕ) (old new : N) : Type 0 where
  pub nonces : List (List ℕ)
  pub few : length nonces ≤ most
  pub mid : N
  pub draws : Draws left nonces old mid
  pub left_stay : left new ≡ left mid

-- All were drawn; or drawing one failed, and the count of faults rose.
abbrev pub DrawsOrFails : {N : Type 0} → (N → Option (List ℕ)) → (N → ℕ) → Option (List (List ℕ)) → N → N → Type 0
DrawsOrFails left faults (Some nonces) old new = Draws left nonces old new
DrawsOrFails left faults None old new = Rose (faults old) (faults new)

-- ---- both

pub record Outside : Type 0 where
  -- the nonces that were drawn, in order, where drawing did not fail
  pub nonces : Option (List (List ℕ))
  -- what calendars were asked, in order
  pub questions : List Question
  -- what came of each conversation
  pub outcomes : List Outcome

-- nothing is drawn, and nobody is asked
abbrev pub alone : Outside
alone = record { nonces = Some []; questions = []; outcomes = [] }

-- These conversations were had between two states of a dialer, and these nonces drawn between two of their source.
pub record Happens {D N : Type 0} (told : D → DialerTold) (faults : D → ℕ) (left : N → Option (List ℕ))
    (draw_faults : N → ℕ) (old new : D) (before now : N)
    (o : Outside) : Type 0 where
  pub heard : Converse told faults o.questions old new o.outcomes
  pub drawn : DrawsOrFails left draw_faults o.nonces before now

-- These conversations were had, and nothing was drawn.
pub record Hears {D : Type 0} (told : D → DialerTold) (faults : D → ℕ) (old new : D) (o : Outside) : Type 0 where
  pub heard : Converse told faults o.questions old new o.outcomes
  pub none : o.nonces ≡ Some []
