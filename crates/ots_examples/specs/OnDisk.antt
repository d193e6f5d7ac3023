-- The journal of some entries, and the book that is opened on it.
use Rattle.std.specs.Prelude.{ℕ, true, List, [], ◌∷◌, ◌++◌, length, map}
use Rattle.ots_calendar.specs.Book.{BookTold}
use Rattle.ots_journal.specs.Image.{prefix}
use Rattle.ots_journal.specs.declared.entry.Entry.{Entry}
use Rattle.ots_journal.specs.declared.limits.TheConstants.{MAX_JOURNAL}
use Rattle.ots_store.specs.Order.{records_of}

-- Each entry was added by itself.
abbrev pub groups : List Entry → List (List Entry)
groups entries = map (λ entry. entry ∷ []) entries

-- The last gate is closed, by a zero byte.
abbrev pub image : List Entry → List ℕ
image entries = prefix (groups entries) ++ 0 ∷ []

-- No ticket waits in it, and none is settled.
abbrev pub opened : {D : Type 0} → List Entry → D → BookTold D
opened entries disk = record {
  store = record {
    journal = record {
      disk = disk;
      entries = entries;
      flight = [];
      is_sure = true;
      gate = length (prefix (groups entries));
      limit = MAX_JOURNAL;
      spare_entries = 0;
      spare_bytes = 0;
    };
    records = records_of entries;
    spare = 0;
  };
  tickets = record { waiting = []; settled = []; spare = 0 };
}
