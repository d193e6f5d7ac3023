-- What contracts see of a journal.
use Rattle.std.specs.Prelude.{◌≡◌, ◌≢◌, ◌⊎◌, ◌<◌, ◌≤◌, ℕ, ◌+◌, Bool, true, false, List, [], ◌∷◌, ◌++◌, length}
use Rattle.std.specs.Prelude.{slice_index, Option, Result, Ok, Err}
use Rattle.std.specs.List.{AllByRecursion}
use Rattle.ots_base.specs.Told.{IfTold}
use Rattle.ots_disk.specs.Disk.{LeavesOnly}
use Rattle.ots_journal.specs.declared.entry.Entry.{Entry}
use Rattle.ots_journal.specs.declared.errors.AppendError.{AppendError}
use Rattle.ots_journal.specs.declared.errors.AppendError.TheVariants.{DiskFault, Full, OutOfMemory}
use Rattle.ots_journal.specs.declared.limits.TheConstants.{MAX_JOURNAL}
use Rattle.ots_journal.specs.Stored.{StoredTold}
use Rattle.ots_journal.specs.Image.{open_gate, entries_bytes, payload_bytes, group_body, FitsGroup, entries_of, prefix}
use Rattle.ots_journal.specs.Image.{Stands}

pub record JournalTold (D : Type 0) : Type 0 where
  pub disk : D
  -- the acknowledged entries
  pub entries : List Entry
  -- the group in flight, where there is one
  pub flight : List Entry
  -- whether it is known that nothing is in flight
  pub is_sure : Bool
  -- the place of the closed gate, after the acknowledged entries
  pub gate : ℕ
  -- the most bytes that the file may have
  pub limit : ℕ
  -- how many entries, and of payloads how many bytes, can be appended without taking memory
  pub spare_entries : ℕ
  pub spare_bytes : ℕ

-- The bytes that a file has with a group at this gate, the next gate among them.
abbrev pub size_with : ℕ → List Entry → ℕ
size_with gate group = gate + 8 + length (entries_bytes group)

-- These bytes are no more than the limit.
abbrev pub IsAtMost : ℕ → List ℕ → Type 0
IsAtMost limit bytes = length bytes ≤ limit

-- ---- images

-- These bytes stand for the acknowledged entries, or for these and the group in flight.
abbrev pub StandsForEither : List Entry → List Entry → List ℕ → Type 0
StandsForEither entries flight bytes = Stands bytes entries ⊎ Stands bytes (entries ++ flight)

-- Every image stands for the acknowledged entries, or for these and all of the group in flight. Every image of a sure
-- journal stands for its entries, and so do the bytes that are read. No image has more bytes than the limit.
pub record StandsNow {D : Type 0} (bytes : D → Option (List ℕ)) (images : D → List ℕ → Type 0)
    (j : JournalTold D) : Type 0 where
  pub either : (c : List ℕ) → images j.disk c → StandsForEither j.entries j.flight c
  pub sure : j.is_sure ≡ true → (c : List ℕ) → images j.disk c → Stands c j.entries
  pub read : j.is_sure ≡ true → IfTold (bytes j.disk) (λ b. Stands b j.entries)
  pub within : (c : List ℕ) → images j.disk c → IsAtMost j.limit c

-- ---- what every journal keeps

-- A file with these groups. After them is a gate, which is closed in a sure journal, and if it is open, then the group
-- in flight is whole after it, and then a closed gate.
pub record AtGate (groups : List (List Entry)) (flight : List Entry) (is_sure : Bool) (bytes : List ℕ) : Type 0 where
  pub gate : ℕ
  pub rest : List ℕ
  pub whole : bytes ≡ prefix groups ++ gate ∷ rest
  pub closed : is_sure ≡ true → gate ≢ open_gate
  pub opened : gate ≡ open_gate → (next : ℕ) × (after : List ℕ) × (next ≢ open_gate)
      × (rest ≡ group_body flight ++ next ∷ after)

pub record Keeps (images : List ℕ → Type 0) (entries flight : List Entry) (is_sure : Bool) (gate : ℕ) : Type 0 where
  pub groups : List (List Entry)
  pub fit : AllByRecursion FitsGroup groups
  pub joined : entries ≡ entries_of groups
  pub place : gate ≡ length (prefix groups)
  pub none_in_flight : is_sure ≡ true → flight ≡ []
  pub flight_fits : is_sure ≡ false → FitsGroup flight
  pub each : (c : List ℕ) → images c → AtGate groups flight is_sure c

-- The file is within the limit, also with the group in flight.
pub record IsWithin (limit gate : ℕ) (flight : List Entry) (is_sure : Bool) : Type 0 where
  pub gate_within : gate < limit
  pub most : limit ≤ MAX_JOURNAL
  pub flight_within : is_sure ≡ false → size_with gate flight ≤ limit

-- ---- what the calls of a journal do

-- A refresh that answered Ok: the group in flight is taken in exactly where its gate is open.
pub record Refreshed {D : Type 0} (bytes : D → Option (List ℕ)) (old new : JournalTold D) : Type 0 where
  pub sure : new.is_sure ≡ true
  pub none_in_flight : new.flight ≡ []
  pub already : old.is_sure ≡ true → new ≡ old
  pub decided : old.is_sure ≡ false
      → ((new.entries ≡ old.entries) × (new.gate ≡ old.gate))
      ⊎ ((new.entries ≡ old.entries ++ old.flight) × (new.gate + 1 ≡ size_with old.gate old.flight))
  pub opened : old.is_sure ≡ false → IfTold (bytes old.disk) (λ b. slice_index b old.gate ≡ open_gate
      → new.entries ≡ old.entries ++ old.flight)
  pub closed : old.is_sure ≡ false → IfTold (bytes old.disk) (λ b. slice_index b old.gate ≢ open_gate
      → new.entries ≡ old.entries)
  pub bytes_stay : bytes new.disk ≡ bytes old.disk
  pub limit : new.limit ≡ old.limit
  pub spare_entries : new.spare_entries ≡ old.spare_entries
  pub spare_bytes : new.spare_bytes ≡ old.spare_bytes

-- A refresh that failed leaves all but the disk as it was.
pub record Unrefreshed {D : Type 0} (bytes : D → Option (List ℕ)) (old new : JournalTold D) : Type 0 where
  pub was_unsure : old.is_sure ≡ false
  pub same : new ≡ record old { disk = new.disk }
  pub bytes_stay : bytes new.disk ≡ bytes old.disk

-- A group was put after the gate of a sure journal.
pub record Put {D : Type 0} (old new : JournalTold D) (group : List Entry) (first : ℕ) : Type 0 where
  pub first_index : first ≡ length old.entries
  pub entries : new.entries ≡ old.entries ++ group
  pub none_in_flight : new.flight ≡ []
  pub sure : new.is_sure ≡ true
  pub gate : new.gate + 1 ≡ size_with old.gate group
  pub limit : new.limit ≡ old.limit

-- The disk failed, and the group is in flight.
pub record InFlight {D : Type 0} (old new : JournalTold D) (group : List Entry) : Type 0 where
  pub entries : new.entries ≡ old.entries
  pub flight : new.flight ≡ group
  pub unsure : new.is_sure ≡ false
  pub gate : new.gate ≡ old.gate
  pub limit : new.limit ≡ old.limit

-- What an append to a sure journal leaves, by its answer.
abbrev pub PutOutcome : {D : Type 0} → JournalTold D → JournalTold D → List Entry → Result ℕ AppendError → Type 0
PutOutcome old new group (Ok first) = Put old new group first
PutOutcome old new group (Err DiskFault) = InFlight old new group
PutOutcome old new group (Err (Full need limit)) = (new ≡ old) × (need ≡ size_with old.gate group) × (limit ≡ old.limit)
    × (old.limit < size_with old.gate group)
PutOutcome old new group (Err OutOfMemory) = new ≡ old

-- A group for which room was reserved is not refused for want of memory, and an append takes at most its own share of
-- the room, whatever it answers.
pub record UsesRoom {D : Type 0} (old new : JournalTold D) (group : List Entry)
    (result : Result ℕ AppendError) : Type 0 where
  pub enough : length group ≤ old.spare_entries → payload_bytes group ≤ old.spare_bytes → result ≡ Err OutOfMemory → ⊥
  pub entries_left : old.spare_entries ≤ new.spare_entries + length group
  pub bytes_left : old.spare_bytes ≤ new.spare_bytes + payload_bytes group

-- A group that is put after the gate of a sure journal.
pub record Puts {D : Type 0} (clock : D → ℕ) (images_since : D → ℕ → List ℕ → Type 0) (old new : JournalTold D)
    (group : List Entry) (result : Result ℕ AppendError) : Type 0 where
  pub outcome : PutOutcome old new group result
  pub full : old.limit < size_with old.gate group → result ≡ Err (Full (size_with old.gate group) old.limit)
  pub at_any_moment : LeavesOnly clock images_since old.disk new.disk (StandsForEither old.entries group)
  pub room : UsesRoom old new group result

-- The staged group is on the disk and taken in.
pub record Settles (images : List ℕ → Type 0) (old new : StoredTold) (first : ℕ) : Type 0 where
  pub first_index : first ≡ length old.entries
  pub entries : new.entries ≡ old.entries ++ old.flight
  pub flight : new.flight ≡ []
  pub size : new.size + 1 ≡ size_with old.size old.flight
  pub staged : new.staged ≡ []
  pub spare_entries : new.spare_entries ≡ old.spare_entries
  pub spare_bytes : new.spare_bytes ≡ old.spare_bytes
  pub keeps : Keeps images new.entries [] true new.size

-- An append whose own refresh answered Ok: at every moment of the refresh each image stands for the entries or these
-- and the old group in flight, and at every later moment for the entries found or these and all of the new group.
pub record AppendsAfter {D : Type 0} (bytes : D → Option (List ℕ)) (clock : D → ℕ)
    (images_since : D → ℕ → List ℕ → Type 0) (old new : JournalTold D) (group : List Entry)
    (result : Result ℕ AppendError) : Type 0 where
  -- the journal after the refresh
  pub mid : JournalTold D
  pub refreshed : Refreshed bytes old mid
  pub refreshing : LeavesOnly clock images_since old.disk mid.disk (StandsForEither old.entries old.flight)
  pub puts : Puts clock images_since mid new group result

-- An append whose own refresh failed puts nothing in flight.
pub record AppendsNothing {D : Type 0} (bytes : D → Option (List ℕ)) (clock : D → ℕ)
    (images_since : D → ℕ → List ℕ → Type 0) (old new : JournalTold D) (result : Result ℕ AppendError) : Type 0 where
  pub unrefreshed : Unrefreshed bytes old new
  pub fault : result ≡ Err DiskFault
  pub refreshing : LeavesOnly clock images_since old.disk new.disk (StandsForEither old.entries old.flight)

abbrev pub Appends : {D : Type 0} → (D → Option (List ℕ)) → (D → ℕ) → (D → ℕ → List ℕ → Type 0) → JournalTold D
    → JournalTold D → List Entry → Result ℕ AppendError → Type 0
Appends bytes clock images_since old new group result =
    AppendsAfter bytes clock images_since old new group result ⊎ AppendsNothing bytes clock images_since old new result
