-- What contracts see of a shared book, of a caller's pass, and of a hold.
use Rattle.std.specs.Prelude.{◌≡◌, ℕ, List, Bool, true}
use Rattle.atomic_table.specs.Seated.{TableId}
use Rattle.ots_calendar.specs.Book.{BookTold}
use Rattle.ots_store.specs.Records.{Record}
use Rattle.ots_shared.specs.declared.row.Row.{Row}

pub record SharedTold : Type 0 where
  -- which one it is
  pub table : TableId
  -- how many callers it is for
  pub callers : ℕ
  -- the limit of the book's journal
  pub limit : ℕ

-- A caller's place.
pub record SeatTold : Type 0 where
  -- which shared book it is at
  pub table : TableId
  -- the limit of the book's journal
  pub limit : ℕ
  -- for how many of the callers it stands
  pub share : ℕ

-- While a pass holds the book, its place and what it knows are with the hold, and it has the number, the rows and the
-- count alone.
pub record PassTold : Type 0 where
  pub seat : SeatTold
  -- the records that it has seen
  pub seen : List Record
  -- the greatest count of records that it was told
  pub told : ℕ
  -- whether it holds the book
  pub holding : Bool
  -- the number that its hold has drawn
  pub number : ℕ
  -- the rows of its latest holds, the oldest first
  pub holds : List Row
  -- how many of its holds were released
  pub made : ℕ

-- A book that is held, with the place of its holder and what it knew.
pub record HeldTold (D : Type 0) : Type 0 where
  pub seat : SeatTold
  pub seen : List Record
  pub told : ℕ
  -- the number that was drawn for it; no two holds of one book have the same while they last
  pub number : ℕ
  -- the book as it was found, and as it is now
  pub found : BookTold D
  pub book : BookTold D

-- ---- which belongs to which

abbrev pub IsSeatAt : SharedTold → SeatTold → Type 0
IsSeatAt s seat = (seat.table ≡ s.table) × (seat.limit ≡ s.limit)

-- The pass is one of this shared book.
abbrev pub IsPassOf : SharedTold → PassTold → Type 0
IsPassOf s p = IsSeatAt s p.seat

-- What is held is the book of this shared one.
abbrev pub IsHeldOf : {D : Type 0} → SharedTold → HeldTold D → Type 0
IsHeldOf s h = IsSeatAt s h.seat

-- The hold was taken with this pass.
abbrev pub IsTakenWith : {D : Type 0} → PassTold → HeldTold D → Type 0
IsTakenWith p h = (p.holding ≡ true) × (h.number ≡ p.number)

-- The hold, with its book as it was left.
abbrev pub with_book : {D : Type 0} → HeldTold D → BookTold D → HeldTold D
with_book h book = record {
  seat = h.seat;
  seen = h.seen;
  told = h.told;
  number = h.number;
  found = h.found;
  book = book;
}
