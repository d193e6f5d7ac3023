-- What the record of a system's file notes.
use Rattle.std.specs.Prelude.{ℕ, zero, suc, Bool, List, [], ◌∷◌, slice_index, ◌==◌}
use Rattle.ots_real.specs.CallRecord.{Note}
use Rattle.ots_file.specs.Events.{FileEvent}
use Rattle.ots_file.specs.Events.FileEvent.{opened, folder_synced, pages_dropped, measured, got, wrote, synced}

abbrev pub event_from : ℕ → ℕ → ℕ → Bool → List ℕ → FileEvent
event_from zero place n ok bytes = opened bytes ok
event_from (suc zero) place n ok bytes = folder_synced bytes ok
event_from (suc (suc zero)) place n ok bytes = pages_dropped ok
event_from (suc (suc (suc zero))) place n ok bytes = measured ok n
event_from (suc (suc (suc (suc zero)))) place n ok bytes = got place n ok bytes
event_from (suc (suc (suc (suc (suc zero))))) place n ok bytes = wrote place bytes ok n
event_from (suc (suc (suc (suc (suc (suc more)))))) place n ok bytes = synced ok

-- which call, a place, a count, and 1 for success
abbrev pub event_of : List ℕ → List ℕ → FileEvent
event_of numbers bytes =
    event_from (slice_index numbers 0) (slice_index numbers 1) (slice_index numbers 2)
    (slice_index numbers 3 == 1) bytes

abbrev pub events_from : List Note → List FileEvent
events_from [] = []
events_from (note ∷ earlier) = event_of note.numbers note.bytes ∷ events_from earlier
