-- A page of a calendar's records, as it is read.
use Rattle.std.specs.Prelude.{◌≡◌, ℕ, ◌<◌, ◌≤◌, ◌^◌, List, ◌++◌, length}
use Rattle.std.specs.List.{AllByRecursion}
use Rattle.ots_journal.specs.declared.entry.Entry.{Entry}
use Rattle.ots_journal.specs.Image.{entry_bytes, entries_bytes}
use Rattle.ots_store.specs.Page.{page_bytes}
use Rattle.ots_store.specs.declared.page.TheConstants.{MAX_PAGE_ENTRIES}

-- The length of a payload has four bytes.
abbrev pub HasSize : Entry → Type 0
HasSize entry = length entry.payload < 2 ^ 32

-- The bytes are these entries, and no more.
pub record AreEntries (bytes : List ℕ) (entries : List Entry) : Type 0 where
  pub few : length entries ≤ MAX_PAGE_ENTRIES
  pub sizes : AllByRecursion HasSize entries
  pub whole : bytes ≡ entries_bytes entries

-- The bytes are a page: the number of its first record, eight bytes, and 0 to 128 entries.
pub record IsPage (bytes : List ℕ) (first : ℕ) (entries : List Entry) : Type 0 where
  pub number : first < 2 ^ 64
  pub few : length entries ≤ MAX_PAGE_ENTRIES
  pub sizes : AllByRecursion HasSize entries
  pub whole : bytes ≡ page_bytes first entries

-- The bytes begin with this entry, and the rest comes after it. It serves the reader's code.
pub record BeginsWith (entry : Entry) (rest bytes : List ℕ) : Type 0 where
  pub size : HasSize entry
  pub whole : bytes ≡ entry_bytes entry ++ rest
