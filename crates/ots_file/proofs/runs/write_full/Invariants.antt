use Rattle.std.specs.Prelude.{◌≡◌, ◌≤◌, ◌-◌, length, take, true, ℕ, List}
use Rattle.std.specs.Option.{option_map}
use Rattle.ots_disk.specs.Disk.{put}
use Rattle.ots_file.specs.Events.{failures, has_failed_sync, is_ready}
use Rattle.ots_file.specs.Runs.{writes, total}
use Rattle.ots_file.specs.Told.{Grows, told_bytes}
use Rattle.ots_file.proofs.runs.write_full.Given as goal

abbrev pub invariant-loop-done : goal.invariant-loop-done
invariant-loop-done g l =
    let first = g.F.FileCalls.first l.fn.file in
    let old = g.F.FileCalls.history l.fn.file in
    let now = g.F.FileCalls.history l.file in
    (l.done ≤ length l.piece) × (g.F.FileCalls.first l.file ≡ first) × (failures now ≡ failures old) × (has_failed_sync now ≡ has_failed_sync old) × (is_ready old ≡ true → is_ready now ≡ true)
    × (told_bytes first now ≡ option_map (put l.place (take l.done l.piece)) (told_bytes first old))
    × ((takes : List ℕ) × (now ≡ writes l.place l.piece old takes) × (total takes ≡ l.done))
    × Grows l.place (length l.piece) first old now
    × (g.F.FileCalls.folder l.file ≡ g.F.FileCalls.folder l.fn.file)

abbrev pub decreases-loop-done : goal.decreases-loop-done
decreases-loop-done g l = length l.piece - l.done
