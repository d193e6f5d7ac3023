-- What each step of a caller tells it. It serves the code alone.
use Rattle.std.specs.Prelude.{◌≡◌, ◌≢◌, ◌⊎◌, ℕ, ◌+◌, ◌-◌, ◌%◌, ◌^◌, ◌≤◌, List, [], ◌∷◌, length, max, Option, Some, None}
use Rattle.atomic_table.specs.Table.{Me, Step}
use Rattle.atomic_table.specs.Seated.{TableId}
use Rattle.atomic_table.specs.declared.shared.Seat.{Seat}
use Rattle.ots_calendar.specs.Book.{BookTold}
use Rattle.ots_store.specs.Records.{Record}
use Rattle.ots_shared.specs.Records.{StartsWith}
use Rattle.ots_shared.specs.declared.view.Stage.{Stage}
use Rattle.ots_shared.specs.declared.view.Stage.TheVariants.{Idle, Waits, Holds}
use Rattle.ots_shared.specs.declared.view.View.{View}

-- What a seat knows, and the slot that is out with it.
abbrev pub Sat : Type 0 → Type 0
Sat D = Me (Option (BookTold D)) View

-- ---- views

abbrev pub view : List Record → List Record → ℕ → ℕ → ℕ → Stage → View
view seen also told share limit stage = record {
  seen = seen;
  also = also;
  told = told;
  share = share;
  limit = limit;
  stage = stage;
}

abbrev pub at_stage : View → Stage → View
at_stage v stage = view v.seen v.also v.told v.share v.limit stage

abbrev pub informed : View → ℕ → View
informed v told = view v.seen v.also told v.share v.limit v.stage

abbrev pub released : View → List Record → View
released v seen = view seen v.also v.told v.share v.limit Idle

-- What is left once a share of 1 is cut off, and what the new caller knows.
abbrev pub lessened : View → View
lessened v = view v.seen v.also v.told (v.share - 1) v.limit v.stage

abbrev pub single : View → View
single v = view v.seen [] v.told 1 v.limit Idle

-- Two in one, before the longer list is found, and after it.
abbrev pub both : View → View → View
both v w = view v.seen w.seen (max v.told w.told) (v.share + w.share) v.limit v.stage

abbrev pub settled : View → List Record → View
settled v seen = view seen [] v.told v.share v.limit v.stage

abbrev pub nobody : View
nobody = view [] [] 0 0 0 Idle

-- What the first caller knows.
abbrev pub opener : {D : Type 0} → ℕ → BookTold D → View
opener callers b = view b.store.records [] 0 callers b.store.journal.limit Idle

-- ---- seats

abbrev pub IsSameSeat : {D : Type 0} → Seat (Option (BookTold D)) View → Seat (Option (BookTold D)) View → Type 0
IsSameSeat p q = (q.table_id ≡ p.table_id) × (q.id ≡ p.id)

-- A seat of this table, which has three words.
abbrev pub IsSeatOf : {D : Type 0} → TableId → Seat (Option (BookTold D)) View → Type 0
IsSeatOf table p = (p.table_id ≡ table) × (table.words ≡ 3)

-- The book is out with this seat, the slot is empty, and the others were told of these records.
abbrev pub Holding : {D : Type 0} → Sat D → List Record → Type 0
Holding m l = (n : ℕ) × (m ≡ (at_stage m.0 (Holds n l), (0, None) ∷ []))

-- The book is of this limit, begins with what was seen, and has no fewer records than were told.
abbrev pub Fits : {D : Type 0} → View → BookTold D → Type 0
Fits v b = StartsWith b.store.records v.seen × (v.told ≤ length b.store.records) × (b.store.journal.limit ≡ v.limit)

-- The seat has taken this book out.
abbrev pub Takes : {D : Type 0} → Sat D → Sat D → BookTold D → Type 0
Takes m m' b = (n : ℕ) × (m' ≡ (at_stage m.0 (Holds n b.store.records), (0, None) ∷ [])) × Fits m.0 b

-- ---- steps: what a seat is before and after, and the number that was found

-- A number was drawn.
abbrev pub Draws : {D : Type 0} → Step (Option (BookTold D)) → Sat D → ℕ → Sat D → Type 0
Draws st m r m' = (n : ℕ) × (m' ≡ (at_stage m.0 (Waits n), m.1)) × (r ≡ n % 2 ^ 64)

-- Where the caller's number is served, the book is taken.
abbrev pub Looks : {D : Type 0} → Step (Option (BookTold D)) → Sat D → ℕ → Sat D → Type 0
Looks {D} st m r m' = (n : ℕ) → m.0.stage ≡ Waits n →
    (r ≡ n % 2 ^ 64 → (b : BookTold D) × (m' ≡ (at_stage m.0 (Holds n b.store.records), (0, Some b) ∷ m.1))
    × Fits m.0 b)
    × (r ≢ n % 2 ^ 64 → m' ≡ m)

-- The holder tells the others of the book's records, as they are now.
abbrev pub Publishes : {D : Type 0} → Step (Option (BookTold D)) → Sat D → ℕ → Sat D → Type 0
Publishes {D} st m r m' = (n : ℕ) (l : List Record) (b : BookTold D) → m.0.stage ≡ Holds n l → m.1 ≡ (0, Some b) ∷ []
    → m' ≡ (at_stage m.0 (Holds n b.store.records), m.1)

-- The book is at home again, and all its records are seen.
abbrev pub Serves : {D : Type 0} → Step (Option (BookTold D)) → Sat D → ℕ → Sat D → Type 0
Serves st m r m' = (n : ℕ) (l : List Record) → m.0.stage ≡ Holds n l → m' ≡ (released m.0 l, [])

-- At least as many records are told of as were seen, and no fewer than before.
abbrev pub Counts : {D : Type 0} → Step (Option (BookTold D)) → Sat D → ℕ → Sat D → Type 0
Counts st m r m' = (m' ≡ (informed m.0 r, m.1)) × (m.0.told ≤ r) × (length m.0.seen ≤ r)

-- The longer of the two lists begins with the other.
abbrev pub Settles : {D : Type 0} → Step (Option (BookTold D)) → Sat D → ℕ → Sat D → Type 0
Settles st m r m' = (l : List Record) × (m' ≡ (settled m.0 l, m.1)) × StartsWith l m.0.seen × StartsWith l m.0.also
    × ((l ≡ m.0.seen) ⊎ (l ≡ m.0.also))
