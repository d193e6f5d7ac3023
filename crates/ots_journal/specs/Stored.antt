-- How the entries of a journal are held: in bytes as the file has them, each found by its place.
use Rattle.std.specs.Prelude.{◌≡◌, ◌≤◌, ℕ, ◌+◌, ◌-◌, ◌*◌, List, [], ◌∷◌, ◌++◌, length, take, drop, map, Vec}
use Rattle.std.specs.Prelude.{vec_capacity}
use Rattle.std.specs.List.{AllByRecursion}
use Rattle.std.specs.declared.alloc.Global.{Global}
use Rattle.ots_journal.specs.Image.{group_bytes, payload_bytes}
use Rattle.ots_journal.specs.declared.entry.Entry.{Entry}
use Rattle.ots_journal.specs.declared.place.Place.{Place}

pub record StoredTold : Type 0 where
  -- the acknowledged entries
  pub entries : List Entry
  -- the group that is staged after them, where one is
  pub flight : List Entry
  -- how many bytes the magic and the acknowledged groups have, so the place of the gate after them
  pub size : ℕ
  -- the bytes of the staged group, with its gate and the next one
  pub staged : List ℕ
  pub spare_entries : ℕ
  pub spare_bytes : ℕ

-- The entry at a place.
abbrev pub entry_at : List ℕ → Place → Entry
entry_at file place = record { kind = place.kind; payload = take place.length (drop place.start file) }

abbrev pub entries_at : List ℕ → List Place → List Entry
entries_at file places = map (entry_at file) places

-- A payload ends at this byte or before it.
abbrev pub EndsBy : ℕ → Place → Type 0
EndsBy end place = place.start + place.length ≤ end

-- A group with its open gate, and a closed gate after it.
abbrev pub staged_bytes : List Entry → List ℕ
staged_bytes group = group_bytes group ++ 0 ∷ []

-- The held entries lie within the marked part, the others after it and before the last gate, and there is memory for
-- what is spare: an entry takes at most 13 bytes beside its payload, as a group of its own with both gates.
pub record IsStored (file : Vec ℕ Global) (places : Vec Place Global)
    (held mark spare_entries spare_bytes : ℕ) : Type 0 where
  pub held_there : held ≤ length places.items
  pub mark_there : mark ≤ length file.items
  pub held_within : AllByRecursion (EndsBy mark) (take held places.items)
  pub flight_within : AllByRecursion (EndsBy (length file.items - 1)) (drop held places.items)
  pub places_room : length places.items + spare_entries ≤ vec_capacity places
  pub file_room : length file.items + 13 * spare_entries + spare_bytes ≤ vec_capacity file

-- Places were added, of these entries.
pub record Adds (old_file new_file : List ℕ) (old new : List Place) (entries : List Entry) : Type 0 where
  pub places : List Place
  pub added : new ≡ old ++ places
  pub are : entries_at new_file places ≡ entries
  pub within : AllByRecursion (EndsBy (length new_file)) places

-- There is room for at least so much, and all else is as before.
pub record IsReserved (old new : StoredTold) (entries bytes : ℕ) : Type 0 where
  pub same : new ≡ record old { spare_entries = new.spare_entries; spare_bytes = new.spare_bytes }
  pub enough_entries : entries ≤ new.spare_entries
  pub enough_bytes : bytes ≤ new.spare_bytes
  pub more_entries : old.spare_entries ≤ new.spare_entries
  pub more_bytes : old.spare_bytes ≤ new.spare_bytes

-- A group is staged after the acknowledged entries.
pub record Stages (old new : StoredTold) (group : List Entry) : Type 0 where
  pub entries : new.entries ≡ old.entries
  pub flight : new.flight ≡ group
  pub size : new.size ≡ old.size
  pub staged : new.staged ≡ staged_bytes group
  pub spare_entries : new.spare_entries + length group ≡ old.spare_entries
  pub spare_bytes : new.spare_bytes + payload_bytes group ≡ old.spare_bytes
