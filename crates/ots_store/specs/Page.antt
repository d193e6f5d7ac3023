-- A page of records, which a calendar hands out to whoever keeps a copy of them. It is this project's own.
use Rattle.std.specs.Prelude.{ℕ, ◌+◌, ◌-◌, zero, suc, nat_le, nat_lt, if◌then◌else◌, List, [], ◌∷◌, ◌++◌, length, drop}
use Rattle.std.specs.Prelude.{map, Option, None, Some}
use Rattle.std.specs.Int.{w64, to_be_bytes}
use Rattle.ots_base.specs.declared.limits.TheConstants.{MAX_REPLY_BODY}
use Rattle.ots_journal.specs.declared.entry.Entry.{Entry}
use Rattle.ots_journal.specs.Image.{entries_bytes}
use Rattle.ots_store.specs.declared.page.TheConstants.{MAX_PAGE_ENTRIES}
use Rattle.ots_store.specs.Records.{Record, entry_of}

-- The bytes of an entry: its kind, one byte, the length of its payload, four bytes, and the payload.
abbrev pub entry_size : Entry → ℕ
entry_size entry = 5 + length entry.payload

-- As many of these entries, from the first on, as fit whole into so much room, and at most `most` of them.
abbrev pub fitting : ℕ → ℕ → List Entry → List Entry
fitting zero room entries = []
fitting (suc most) room [] = []
fitting (suc most) room (entry ∷ entries) =
    if nat_le (entry_size entry) room then entry ∷ fitting most (room - entry_size entry) entries else []

-- The number of the first entry, eight bytes, and the entries.
abbrev pub page_bytes : ℕ → List Entry → List ℕ
page_bytes first entries = to_be_bytes w64 first ++ entries_bytes entries

-- The page of records from number `n` on: as many of their entries as fit into MAX_REPLY_BODY bytes in all, 10,000,
-- and at most MAX_PAGE_ENTRIES, 128.
abbrev pub page : List Record → ℕ → List ℕ
page records n = page_bytes n (fitting MAX_PAGE_ENTRIES (MAX_REPLY_BODY - 8) (map entry_of (drop n records)))

-- There is none for a number over the count of records.
abbrev pub page_of : List Record → ℕ → Option (List ℕ)
page_of records n = if nat_lt (length records) n then None else Some (page records n)
