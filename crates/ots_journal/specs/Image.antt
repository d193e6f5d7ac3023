-- Which entries the bytes of a journal, version 2, stand for.
use Rattle.std.specs.Prelude.{◌≡◌, ◌≢◌, ◌⊎◌, ◌<◌, ◌≤◌, ℕ, ◌+◌, List, [], ◌∷◌, ◌++◌, length}
use Rattle.std.specs.Int.{w16, w32, to_be_bytes}
use Rattle.std.specs.List.{flat_map, AllByRecursion}
use Rattle.ots_journal.specs.declared.entry.Entry.{Entry}
use Rattle.ots_journal.specs.declared.limits.TheConstants.{EMPTY_JOURNAL, MAX_GROUP, MIN_ENTRY_PAYLOAD}
use Rattle.ots_journal.specs.declared.limits.TheConstants.{MAX_ENTRY_PAYLOAD}

-- "OTSCAL", version 2, and a line feed
abbrev pub magic : List ℕ
magic = 0x4f ∷ 0x54 ∷ 0x53 ∷ 0x43 ∷ 0x41 ∷ 0x4c ∷ 0x02 ∷ 0x0a ∷ []

-- The gate of a group that counts. Any other byte is a closed gate.
abbrev pub open_gate : ℕ
open_gate = 0xa5

-- An entry is its kind, one byte, the length of its payload, four bytes, and the payload.
abbrev pub entry_bytes : Entry → List ℕ
entry_bytes entry = entry.kind ∷ (to_be_bytes w32 (length entry.payload) ++ entry.payload)

abbrev pub entries_bytes : List Entry → List ℕ
entries_bytes entries = flat_map entry_bytes entries

-- What stands after a group's gate: the number of its entries, two bytes, the number of their bytes, four bytes, and
-- the entries.
abbrev pub group_body : List Entry → List ℕ
group_body entries = to_be_bytes w16 (length entries) ++ (to_be_bytes w32 (length (entries_bytes entries))
    ++ entries_bytes entries)

abbrev pub group_bytes : List Entry → List ℕ
group_bytes entries = open_gate ∷ group_body entries

-- The number of bytes of all payloads.
abbrev pub payload_bytes : List Entry → ℕ
payload_bytes [] = 0
payload_bytes (entry ∷ entries) = length entry.payload + payload_bytes entries

abbrev pub FitsEntry : Entry → Type 0
FitsEntry entry = (MIN_ENTRY_PAYLOAD ≤ length entry.payload) × (length entry.payload ≤ MAX_ENTRY_PAYLOAD)

-- A group has 1 to MAX_GROUP entries, 1024, each with a payload of 44 to 1,048,576 bytes.
pub record FitsGroup (entries : List Entry) : Type 0 where
  pub some : 1 ≤ length entries
  pub most : length entries ≤ MAX_GROUP
  pub payloads : AllByRecursion FitsEntry entries

-- The entries of all groups, in order.
abbrev pub entries_of : List (List Entry) → List Entry
entries_of groups = flat_map (λ (group : List Entry). group) groups

-- The magic and whole groups.
abbrev pub prefix : List (List Entry) → List ℕ
prefix groups = magic ++ flat_map group_bytes groups

-- The bytes begin with the magic and these groups, and have this gate and this rest after them.
pub record Begins (groups : List (List Entry)) (gate : ℕ) (rest bytes : List ℕ) : Type 0 where
  pub whole : bytes ≡ prefix groups ++ gate ∷ rest
  pub fit : AllByRecursion FitsGroup groups

-- A file of at most EMPTY_JOURNAL bytes, 9, stands for no entries. A longer one stands for those of its groups up to
-- the first closed gate, whatever lies after that.
pub record StandsLong (bytes : List ℕ) (entries : List Entry) : Type 0 where
  pub long : EMPTY_JOURNAL < length bytes
  pub groups : List (List Entry)
  pub gate : ℕ
  pub rest : List ℕ
  pub begins : Begins groups gate rest bytes
  pub closed : gate ≢ open_gate
  pub joined : entries ≡ entries_of groups

abbrev pub Stands : List ℕ → List Entry → Type 0
Stands bytes entries = ((length bytes ≤ EMPTY_JOURNAL) × (entries ≡ [])) ⊎ StandsLong bytes entries
