-- The calls that are made of a file that this process makes, and when all of it is durable.
use Rattle.std.specs.Prelude.{ℕ, zero, suc, Bool, true, false, ◌&&◌, List, [], ◌∷◌, Option, None, Some, codes}
use Rattle.std.specs.Prelude.{◌≡◌, ◌⊎◌, Result, MatchResult, slice_index}
use Rattle.std.specs.Path.{path_parent}
use Rattle.ots_real.specs.CallRecord.{Note}

pub data FileCall : Type 0 where
  -- a new file was made under this name
  created : List ℕ → FileCall
  -- this folder was synced
  folder_synced : List ℕ → FileCall
  -- whether a write succeeded, and how many bytes it took
  wrote : Bool → ℕ → FileCall
  -- whether a sync of the file's bytes succeeded
  synced : Bool → FileCall

-- ---- what is durable

-- No call failed.
abbrev pub none_failed : List FileCall → Bool
none_failed [] = true
none_failed (created name ∷ earlier) = none_failed earlier
none_failed (folder_synced folder ∷ earlier) = none_failed earlier
none_failed (wrote ok n ∷ earlier) = ok && none_failed earlier
none_failed (synced ok ∷ earlier) = ok && none_failed earlier

-- The last call is a sync.
abbrev pub ends_synced : List FileCall → Bool
ends_synced [] = false
ends_synced (created name ∷ earlier) = false
ends_synced (folder_synced folder ∷ earlier) = true
ends_synced (wrote ok n ∷ earlier) = false
ends_synced (synced ok ∷ earlier) = true

-- The name is durable and all that was written under it, so far as the system's answers are true: no call failed, and
-- nothing was done since the last sync. After a sync that failed nothing is, for the system may have given up what was
-- written, and answer the next sync well.
abbrev pub is_durable : List FileCall → Bool
is_durable calls = none_failed calls && ends_synced calls

-- ---- what one call of a shelf makes

-- The folder of a name: what stands before its last part, and the working folder where nothing does.
abbrev pub folder_or_here : Option (List ℕ) → List ℕ
folder_or_here None = codes "."
folder_or_here (Some []) = codes "."
folder_or_here (Some (b ∷ more)) = b ∷ more

abbrev pub folder_of : List ℕ → List ℕ
folder_of name = folder_or_here (path_parent name)

-- The calls of a `write` with this answer, the newest first: where it is Ok, a write that took so many bytes and then
-- a sync, which both succeeded; else the first of them that failed is the last, or none was made.
abbrev pub Writes : {E : Type 0} → List FileCall → List FileCall → Result ℕ E → Type 0
Writes old new result =
    MatchResult result (λ n. new ≡ synced true ∷ wrote true n ∷ old)
    (λ _. (new ≡ old) ⊎ (new ≡ wrote false 0 ∷ old) ⊎ ((n : ℕ) × (new ≡ synced false ∷ wrote true n ∷ old)))

-- ---- how calls are noted

-- which call, a count, and a name
abbrev pub call_from : ℕ → ℕ → List ℕ → FileCall
call_from zero n name = created name
call_from (suc zero) n name = folder_synced name
call_from (suc (suc zero)) n name = wrote false n
call_from (suc (suc (suc zero))) n name = wrote true n
call_from (suc (suc (suc (suc zero)))) n name = synced false
call_from (suc (suc (suc (suc (suc more))))) n name = synced true

abbrev pub call_of : Note → FileCall
call_of note = call_from (slice_index note.numbers 0) (slice_index note.numbers 1) note.bytes

abbrev pub calls_from : List Note → List FileCall
calls_from [] = []
calls_from (note ∷ earlier) = call_of note ∷ calls_from earlier
