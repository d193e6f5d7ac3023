-- What a stage says of its caller.
use Rattle.std.proofs.Common.{◌≡◌, ℕ, ◌+◌, ◌-◌, ◌<◌, ◌≤◌, ◌≢◌, List, [], refl, arith, subst}
use mathlib.Core.Option.{none}
use Rattle.ots_store.specs.Records.{Record}
use Rattle.ots_shared.specs.Records.{StartsWith}
use Rattle.ots_shared.specs.Rule.{waits, Has, IsHolder, Home, InStage, Knows}
use Rattle.ots_shared.specs.declared.view.Stage.{Stage}
use Rattle.ots_shared.specs.declared.view.Stage.TheVariants.{Idle, Waits, Holds}
use Rattle.ots_shared.specs.declared.view.View.{View}
use Rattle.ots_shared.proofs.Begins.{starts_trans, starts_length}

abbrev pub number_of : Stage → ℕ
number_of Idle = 0
number_of (Waits n) = n
number_of (Holds n l) = n

abbrev pub records_of : Stage → List Record
records_of Idle = []
records_of (Waits n) = []
records_of (Holds n l) = l

pub idle_not : (st : Stage) → st ≡ Idle → IsHolder st → ⊥
idle_not st e h = subst IsHolder e h

pub waiter_not : (st : Stage) (n : ℕ) → st ≡ Waits n → IsHolder st → ⊥
waiter_not st n e h = subst IsHolder e h

pub holder_waits : (st : Stage) → IsHolder st → waits st ≡ 1
holder_waits Idle h = absurd h
holder_waits (Waits n) h = absurd h
holder_waits (Holds n l) h = refl

module _ {D : Type 0} (first waiting : ℕ) (all : List Record) (home : Home D) where
  -- a number that is out is one of those that are
  pub has_between : (st : Stage) (n : ℕ) → InStage first waiting all home st → Has n st → (first ≤ n) × (n < first + waiting)
  has_between Idle n k h = absurd h
  has_between (Waits m) n k h = let a = k.0 in let b = k.1 in (omega arith, omega arith)
  has_between (Holds m l) n k h = let a = k.0 in let b = k.1 in (omega arith, omega arith)

  -- who has the book has the number served
  pub holder_has : (st : Stage) → InStage first waiting all home st → IsHolder st → Has first st
  holder_has Idle k h = absurd h
  holder_has (Waits m) k h = absurd h
  holder_has (Holds m l) k h = k.0

  -- one number more is out
  pub later : (st : Stage) → InStage first waiting all home st → InStage first (waiting + 1) all home st
  later Idle k = tt
  later (Waits n) k = let a = k.0 in let b = k.1 in (a, omega arith)
  later (Holds n l) k = let b = k.1 in (k.0, omega arith, k.2, k.3)

  -- the book is taken
  pub taken : (st : Stage) → InStage first waiting all home st → InStage {D = D} first waiting all none st
  taken Idle k = tt
  taken (Waits n) k = k
  taken (Holds n l) k = (k.0, k.1, k.2, refl)

  -- there are more records, and who is told has not the number served
  others : (all' : List Record) (home' : Home D) (st : Stage) → (Has first st → ⊥) → InStage first waiting all home st → InStage first waiting all' home' st
  others all' home' Idle not k = tt
  others all' home' (Waits n) not k = k
  others all' home' (Holds n l) not k = absurd (not k.0)

  pub grown : (all' : List Record) (home' : Home D) (limit : ℕ) (u : View) → StartsWith all' all → (Has first u.stage → ⊥) → Knows first waiting all home limit u → Knows first waiting all' home' limit u
  grown all' home' limit u more not k =
      let le = starts_length all all' more in
      let told = k.1 in
      (starts_trans u.seen all all' k.0 more, omega arith, k.2, k.3, others all' home' u.stage not k.4, starts_trans u.also all all' k.5 more)

  -- the next number is served
  pub next : (home' : Home D) (st : Stage) → (Has first st → ⊥) → InStage first waiting all home st → InStage (first + 1) (waiting - 1) all home' st
  next home' Idle not k = tt
  next home' (Waits n) not k =
      let low = k.0 in
      let below = k.1 in
      let other : first ≢ n = not in (omega arith, omega arith)
  next home' (Holds n l) not k = absurd (not k.0)
