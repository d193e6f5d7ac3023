-- The rule by which callers share a book. It serves the code alone: what callers can rely on is in the contracts.
--
-- Word 0 is the next number to draw and word 1 the number served, both modulo 2^64, and word 2 counts the records. Slot
-- 0 has the book. Here numbers are counted without end: each caller that has drawn one and is not done has its own, and
-- `waiting` of them are out, from `first` on.
use Rattle.std.specs.Prelude.{◌≡◌, ℕ, ◌+◌, ◌%◌, ◌^◌, ◌<◌, ◌≤◌, List, [], ◌∷◌, length, Option, Some, None}
use mathlib.Core.Option.{none, some}
use mathlib.Core.Option as maybe
use lib.ListN.{get_elem?}
use Rattle.atomic_table.specs.Table.{State}
use Rattle.ots_calendar.specs.Book.{BookTold}
use Rattle.ots_store.specs.Records.{Record}
use Rattle.ots_shared.specs.Records.{StartsWith}
use Rattle.ots_shared.specs.declared.limits.TheConstants.{MAX_CALLERS}
use Rattle.ots_shared.specs.declared.view.Stage.{Stage}
use Rattle.ots_shared.specs.declared.view.Stage.TheVariants.{Idle, Waits, Holds}
use Rattle.ots_shared.specs.declared.view.View.{View}

-- 1 for a caller that has a number.
abbrev pub waits : Stage → ℕ
waits Idle = 0
waits (Waits n) = 1
waits (Holds n l) = 1

-- The number n is the caller's.
abbrev pub Has : ℕ → Stage → Type 0
Has n Idle = ⊥
Has n (Waits k) = n ≡ k
Has n (Holds k l) = n ≡ k

abbrev pub IsHolder : Stage → Type 0
IsHolder Idle = ⊥
IsHolder (Waits n) = ⊥
IsHolder (Holds n l) = Unit {0}

-- f of each, added up.
abbrev pub total : (View → ℕ) → List View → ℕ
total f [] = 0
total f (v ∷ vs) = f v + total f vs

abbrev pub share_of : View → ℕ
share_of v = v.share

abbrev pub waits_of : View → ℕ
waits_of v = waits v.stage

-- The three words.
abbrev pub three : ℕ → ℕ → List Record → List ℕ
three first waiting all = (first + waiting) % 2 ^ 64 ∷ first % 2 ^ 64 ∷ length all ∷ []

-- What the book's slot has at home: nothing while the book is out, and else the book with all records.
abbrev pub Home : Type 0 → Type 0
Home D = maybe.Option (Option (BookTold D))

abbrev pub AtHome : {D : Type 0} → List Record → ℕ → Home D → Type 0
AtHome all limit none = Unit {0}
AtHome all limit (some None) = ⊥
AtHome all limit (some (Some b)) = (b.store.records ≡ all) × (b.store.journal.limit ≡ limit)

-- What the table is at some moment.
abbrev pub Moment : Type 0 → Type 0
Moment D = State (Option (BookTold D)) View

module _ {D : Type 0} (first waiting : ℕ) (all : List Record) (home : Home D) where
  -- A number that is out is one of those, and who has the book has the number served.
  abbrev pub InStage : Stage → Type 0
  InStage Idle = Unit {0}
  InStage (Waits n) = (first ≤ n) × (n < first + waiting)
  InStage (Holds n l) = (first ≡ n) × (0 < waiting) × (l ≡ all) × (home ≡ none)

  -- What a caller knows is so.
  abbrev pub Knows : ℕ → View → Type 0
  Knows limit v = StartsWith all v.seen × (v.told ≤ length all) × (0 < v.share → v.limit ≡ limit)
      × (waits v.stage ≤ v.share) × InStage v.stage × StartsWith all v.also

-- While the book is out, one caller has it, and knows its records as they were last told to the others.
pub record Kept {D : Type 0} (callers limit : ℕ) (s : Moment D) : Type 0 where
  pub first : ℕ
  pub waiting : ℕ
  -- the records that the callers were told of
  pub all : List Record
  pub home : Home D
  pub words : s.words ≡ three first waiting all
  pub homes : s.homes ≡ home ∷ []
  pub inside : AtHome all limit home
  pub holder : home ≡ none → (j : ℕ) × (v : View) × (get_elem? s.views j ≡ some v) × IsHolder v.stage
  pub shares : total share_of s.views ≡ callers
  pub out : total waits_of s.views ≡ waiting
  pub each : (j : ℕ) (v : View) → get_elem? s.views j ≡ some v → Knows first waiting all home limit v
  -- no two callers have one number
  pub apart : (i j n : ℕ) (v w : View) → get_elem? s.views i ≡ some v → get_elem? s.views j ≡ some w → Has n v.stage
      → Has n w.stage → i ≡ j

-- The rule, with so few callers that no two numbers which are out are the same modulo 2^64.
abbrev pub IsKept : {D : Type 0} → ℕ → ℕ → Moment D → Type 0
IsKept callers limit s = (callers ≤ MAX_CALLERS) × Kept callers limit s
