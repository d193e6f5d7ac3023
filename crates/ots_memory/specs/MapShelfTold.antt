-- What a shelf in memory tells, and what its calls answer.
use Rattle.std.specs.Prelude.{ℕ, ◌+◌, ◌-◌, Bool, ◌||◌, ◌==◌, nat_lt, List, [], ◌∷◌, length, Option, Some, Result, Ok}
use Rattle.std.specs.Prelude.{Err, is_none, is_some, unwrap_or}
use Rattle.std.specs.FinMap as map
use Rattle.ots_base.specs.Cause.{one_more}
use Rattle.ots_base.specs.Table.{line, first_line}
use Rattle.ots_memory.specs.Calls.{CallsTold, is_next_listed}
use Rattle.ots_outside.specs.Shelf.{Names, SlotUse, ShelfTold, ShelfFaults}
use Rattle.ots_outside.specs.declared.shelf.Slot.{Slot}
use Rattle.ots_outside.specs.declared.shelf.OpenError.{OpenError}
use Rattle.ots_outside.specs.declared.shelf.OpenError.TheVariants as opening
use Rattle.ots_outside.specs.declared.shelf.CreateError.{CreateError}
use Rattle.ots_outside.specs.declared.shelf.CreateError.TheVariants as creating
use Rattle.ots_memory.specs.declared.shelf_room.ShelfRoom.{ShelfRoom}
use Rattle.ots_memory.specs.declared.shelf_room.PutError.{PutError}
use Rattle.ots_memory.specs.declared.shelf_room.PutError.TheVariants as putting

pub record MapShelfTold : Type 0 where
  -- the bytes of each name
  pub names : Names
  -- the names whose `open` answered Ok, in order
  pub opened : List (List ℕ)
  -- what each slot is in use for, by its number
  pub slots : ℕ → SlotUse
  -- the room that is left
  pub room : ShelfRoom
  -- its calls of `open`, `read`, `create` and `write` together
  pub calls : CallsTold
  -- how many of them failed
  pub faults : ShelfFaults

-- What it tells as a shelf. It takes its memory when it is made, and so never runs out of it later.
abbrev pub shelf_told : MapShelfTold → ShelfTold
shelf_told shelf = record { names = Some shelf.names; opened = Some shelf.opened; slots = shelf.slots; short = 0 }

-- ---- room

-- Whether there is no room for a new name with these bytes.
abbrev pub is_name_refused : ShelfRoom → List ℕ → List ℕ → Bool
is_name_refused room name bytes = room.names == 0 || nat_lt room.name_length (length name)
    || nat_lt room.bytes (length bytes)

-- The room after a slot was taken.
abbrev pub with_slot_less : ShelfRoom → ShelfRoom
with_slot_less room = record room { slots = room.slots - 1 }

-- The room after a name was added.
abbrev pub with_name_less : ShelfRoom → ShelfRoom
with_name_less room = record room { names = room.names - 1 }

-- ---- refusals, by the first line that fits

-- Why an `open` of this name is refused, where it is.
abbrev pub open_refusal : MapShelfTold → List ℕ → Option OpenError
open_refusal shelf name = first_line (
    line (is_none (map.get shelf.names name)) opening.NotThere
    ∷ line (is_next_listed shelf.calls || shelf.room.slots == 0) opening.Failed
    ∷ [])

-- Why a `create` of this name is refused, where it is.
abbrev pub create_refusal : MapShelfTold → List ℕ → Option CreateError
create_refusal shelf name = first_line (
    line (is_some (map.get shelf.names name)) creating.Exists
    ∷ line (is_next_listed shelf.calls || shelf.room.slots == 0 || is_name_refused shelf.room name []) creating.Failed
    ∷ [])

-- Why a `put` of this name with these bytes is refused, where it is.
abbrev pub put_refusal : MapShelfTold → List ℕ → List ℕ → Option PutError
put_refusal shelf name bytes = first_line (
    line (is_some (map.get shelf.names name)) putting.Exists
    ∷ line (is_name_refused shelf.room name bytes) putting.NoRoom
    ∷ [])

-- Whether a write of this piece to this name fails.
abbrev pub is_append_refused : MapShelfTold → List ℕ → List ℕ → Bool
is_append_refused shelf name piece =
    is_next_listed shelf.calls
    || nat_lt shelf.room.bytes (length (unwrap_or (map.get shelf.names name) []) + length piece)

-- ---- after a call

-- The count of faults of reading after an `open` with this answer: `Failed` alone is one.
abbrev pub faults_after_open : ℕ → Result Slot OpenError → ℕ
faults_after_open faults (Ok slot) = faults
faults_after_open faults (Err opening.NotThere) = faults
faults_after_open faults (Err opening.Failed) = one_more faults
faults_after_open faults (Err opening.OutOfMemory) = faults

-- The count of faults of writing after a `create` with this answer, likewise.
abbrev pub faults_after_create : ℕ → Result Slot CreateError → ℕ
faults_after_create faults (Ok slot) = faults
faults_after_create faults (Err creating.Exists) = faults
faults_after_create faults (Err creating.Failed) = one_more faults
faults_after_create faults (Err creating.OutOfMemory) = faults
