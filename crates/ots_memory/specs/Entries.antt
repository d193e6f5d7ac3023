-- How a shelf in memory holds its names and slots.
use Rattle.std.specs.Prelude.{◌≡◌, ◌<◌, ◌≤◌, ◌+◌, ◌^◌, ℕ, zero, suc, List, [], ◌∷◌, ◌++◌, All, length, take, drop}
use Rattle.std.specs.Prelude.{map as map_list, Some, Vec, vec_capacity, string_bytes, slice_index, slice_index_or}
use Rattle.std.specs.String.{string_capacity}
use Rattle.std.specs.FinMap as map
use Rattle.std.specs.declared.alloc.Global.{Global}
use Rattle.ots_memory.specs.Calls.{CallsTold}
use Rattle.ots_memory.specs.MapShelfTold.{MapShelfTold}
use Rattle.ots_outside.specs.Shelf.{Names, ShelfFaults, SlotUse, closed, reading, writing}
use Rattle.ots_memory.specs.declared.entries.Entry.{Entry}
use Rattle.ots_memory.specs.declared.entries.SlotState.{SlotState}
use Rattle.ots_memory.specs.declared.entries.SlotState.TheVariants.{Closed, Reading, Writing}
use Rattle.ots_memory.specs.declared.shelf_room.ShelfRoom.{ShelfRoom}

-- ---- what is told

-- A name with its bytes.
abbrev pub entry_pair : Entry → List ℕ × List ℕ
entry_pair entry = (string_bytes entry.name, entry.bytes.items)

-- The bytes of each name.
abbrev pub names_of : List Entry → Names
names_of es = map.from_entries (map_list entry_pair es)

-- The name of the entry at this place.
abbrev pub name_at : List Entry → ℕ → List ℕ
name_at [] i = []
name_at (e ∷ es) zero = string_bytes e.name
name_at (e ∷ es) (suc i) = name_at es i

-- The bytes of the entry at this place.
abbrev pub bytes_at : List Entry → ℕ → List ℕ
bytes_at [] i = []
bytes_at (e ∷ es) zero = e.bytes.items
bytes_at (e ∷ es) (suc i) = bytes_at es i

-- What a slot of this state is in use for.
abbrev pub use_of_state : List Entry → SlotState → SlotUse
use_of_state es Closed = closed
use_of_state es (Reading entry place end) = reading (Some (drop place (take end (bytes_at es entry))))
use_of_state es (Writing entry) = writing (name_at es entry)

-- What is told of these entries, slots and opened places.
abbrev pub told_of : List Entry → List SlotState → List ℕ → ShelfRoom → CallsTold → ShelfFaults → MapShelfTold
told_of es states opened_places room calls faults = record {
  names = names_of es;
  opened = map_list (name_at es) opened_places;
  slots = λ k. use_of_state es (slice_index_or states k Closed);
  room = room;
  calls = calls;
  faults = faults;
}

-- ---- what always holds

-- The place of the slot's entry.
abbrev pub entry_of : SlotState → ℕ
entry_of Closed = 0
entry_of (Reading entry place end) = entry
entry_of (Writing entry) = entry

-- How many entries there have to be.
abbrev pub entries_needed : SlotState → ℕ
entries_needed Closed = 0
entries_needed (Reading entry place end) = suc entry
entries_needed (Writing entry) = suc entry

-- How many bytes of the entry were read.
abbrev pub place_of : SlotState → ℕ
place_of Closed = 0
place_of (Reading entry place end) = place
place_of (Writing entry) = 0

-- Where the reading ends.
abbrev pub end_of : SlotState → ℕ
end_of Closed = 0
end_of (Reading entry place end) = end
end_of (Writing entry) = 0

-- The slot's entry is there, and its bytes reach to where it is read.
pub record IsSound (es : List Entry) (state : SlotState) : Type 0 where
  pub entry : entries_needed state ≤ length es
  pub place : place_of state ≤ end_of state
  pub end : end_of state ≤ length (bytes_at es (entry_of state))

-- No name stands twice.
abbrev pub IsDistinct : List Entry → Type 0
IsDistinct es = (i j : ℕ) → i < length es → j < length es → name_at es i ≡ name_at es j → i ≡ j

-- An entry that is not in use yet, with its memory.
pub record IsSpare (name_length bytes : ℕ) (entry : Entry) : Type 0 where
  pub no_name : string_bytes entry.name ≡ []
  pub no_bytes : entry.bytes.items ≡ []
  pub name_room : name_length ≤ string_capacity entry.name
  pub bytes_room : bytes ≤ vec_capacity entry.bytes

-- An entry in use keeps within its memory.
pub record IsWithin (bytes : ℕ) (entry : Entry) : Type 0 where
  pub fits : length entry.bytes.items ≤ bytes
  pub bytes_room : bytes ≤ vec_capacity entry.bytes

-- There is memory for the room that is left.
pub record HasMemory (entries spare : Vec Entry Global) (states : Vec SlotState Global) (opened_places : Vec ℕ Global)
    (room : ShelfRoom) : Type 0 where
  pub all_within : All (IsWithin room.bytes) entries.items
  pub all_spare : All (IsSpare room.name_length room.bytes) spare.items
  pub names_left : length spare.items ≡ room.names
  pub entries_room : length entries.items + room.names ≤ vec_capacity entries
  pub states_room : length states.items + room.slots ≤ vec_capacity states
  pub opened_room : length opened_places.items + room.slots ≤ vec_capacity opened_places
  pub numbers_fit : length states.items + room.slots < 2 ^ 32

-- The entries, slots and opened places fit together.
pub record IsConsistent (es : List Entry) (states : List SlotState) (opened_places : List ℕ) : Type 0 where
  pub distinct : IsDistinct es
  pub sound : (k : ℕ) → IsSound es (slice_index_or states k Closed)
  pub in_range : (k : ℕ) → k < length opened_places → slice_index opened_places k < length es

-- An entry was added with this name and these bytes.
pub record AddsEntry (old new : List Entry) (name bytes : List ℕ) (most : ℕ) : Type 0 where
  pub entry : Entry
  pub added : new ≡ old ++ entry ∷ []
  pub named : string_bytes entry.name ≡ name
  pub holds : entry.bytes.items ≡ bytes
  pub within : IsWithin most entry
