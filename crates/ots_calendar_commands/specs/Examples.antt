-- A small journal, and serving that is in order.
use Rattle.std.specs.Prelude.{ℕ, List, [], ◌∷◌, ◌++◌, None, codes, replicate}
use Rattle.ots_journal.specs.declared.entry.Entry.{Entry}
use Rattle.ots_journal.specs.Image.{prefix}
use Rattle.ots_calendar_words.specs.Words.{ServingAsked}

-- the record of a commitment of 44 zeros
abbrev pub some_commitment : Entry
some_commitment = record { kind = 1; payload = replicate 44 0 }

-- the file that holds it, with a closed gate at its end
abbrev pub some_image : List ℕ
some_image = prefix ((some_commitment ∷ []) ∷ []) ++ 0 ∷ []

-- serving at port 1 with one worker, for all that come
abbrev pub some_serving : ServingAsked
some_serving = record { key = codes "key"; uri = codes "http://a"; port = 1; workers = 1; accept = None }
