-- A pass and a hold as their seat. It serves the code alone.
use Rattle.std.specs.Prelude.{◌≡◌, ℕ, ◌<◌, List, [], ◌∷◌, Bool, true, false, Option}
use Rattle.atomic_table.specs.Seated.{TableId}
use Rattle.atomic_table.specs.declared.shared.Seat.{Seat}
use Rattle.ots_calendar.specs.Book.{BookTold}
use Rattle.ots_shared.specs.Rows.{numbers}
use Rattle.ots_shared.specs.Steps.{Sat, Holding, view, nobody}
use Rattle.ots_shared.specs.Told.{SeatTold, PassTold, HeldTold}
use Rattle.ots_shared.specs.declared.row.Numbers.{Numbers}
use Rattle.ots_shared.specs.declared.row.Row.{Row}
use Rattle.ots_shared.specs.declared.view.Stage.TheVariants.{Idle}
use Rattle.ots_shared.specs.declared.view.View.{View}

abbrev pub seat_told : TableId → View → SeatTold
seat_told table v = record { table = table; limit = v.limit; share = v.share }

-- ---- a pass

abbrev pub pass_told : TableId → View → Bool → ℕ → List Row → ℕ → PassTold
pass_told table v holding number rows made =
    record {
      seat = seat_told table v;
      seen = v.seen;
      told = v.told;
      holding = holding;
      number = number;
      holds = rows;
      made = made;
    }

-- What a free pass knows.
abbrev pub view_of : PassTold → View
view_of p = view p.seen [] p.told p.seat.share p.seat.limit Idle

-- A caller that stands for somebody, and has no number.
abbrev pub IsFree : View → Type 0
IsFree v = (v.stage ≡ Idle) × (v.also ≡ []) × (0 < v.share)

abbrev pub head_of : List View → View
head_of [] = nobody
head_of (v ∷ vs) = v

abbrev pub is_none : List View → Bool
is_none [] = true
is_none (v ∷ vs) = false

-- The seat is free, or out.
abbrev pub IsSettled : List View → Type 0
IsSettled vs = is_none vs ≡ false → IsFree (head_of vs) × (vs ≡ head_of vs ∷ [])

-- ---- a hold

abbrev pub held_told : {D : Type 0} → Seat (Option (BookTold D)) View → ℕ → BookTold D → BookTold D → HeldTold D
held_told place number found book = let v = place.me.0 in
    record {
      seat = seat_told place.table_id v;
      seen = v.seen;
      told = v.told;
      number = number;
      found = found;
      book = book;
    }

-- The seat has the book's slot, which is empty. The others were told of the records that were found, and the numbers
-- are those of the book that was found.
pub record IsOut {D : Type 0} (faults : D → ℕ) (me : Sat D) (found_numbers : Numbers)
    (found : BookTold D) : Type 0 where
  pub holding : Holding me found.store.records
  pub settled : me.0.also ≡ []
  pub share : 0 < me.0.share
  pub limit : found.store.journal.limit ≡ me.0.limit
  pub numbers_are : found_numbers ≡ numbers faults found
