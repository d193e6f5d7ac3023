use Rattle.std.specs.Prelude.{◌≡◌, ◌≤◌, ◌-◌, ℕ, List, length, take, drop}
use Rattle.ots_base.specs.Told.{IfTold}
use Rattle.ots_file.specs.Events.{failures, has_failed_sync, is_ready}
use Rattle.ots_file.specs.Runs.{joined, reads}
use Rattle.ots_file.specs.Told.{Quiet, told_bytes}
use Rattle.ots_file.proofs.runs.read_full.Given as goal

abbrev pub invariant-loop-filled : goal.invariant-loop-filled
invariant-loop-filled g l =
    let first = g.F.FileCalls.first l.fn.file in
    let old = g.F.FileCalls.history l.fn.file in
    let now = g.F.FileCalls.history l.file in
    (l.filled ≤ length l.buf) × (g.F.FileCalls.first l.file ≡ first) × (failures now ≡ failures old) × (has_failed_sync now ≡ has_failed_sync old) × (is_ready now ≡ is_ready old)
    × Quiet first old now
    × IfTold (told_bytes first old) (λ b. (take l.filled l.buf ≡ take l.filled (drop l.place b)) × (l.filled ≤ length b - l.place))
    × ((parts : List (List ℕ)) × (now ≡ reads l.place (length l.buf) old parts) × (joined parts ≡ take l.filled l.buf))
    × (g.F.FileCalls.folder l.file ≡ g.F.FileCalls.folder l.fn.file)

abbrev pub decreases-loop-filled : goal.decreases-loop-filled
decreases-loop-filled g l = length l.initial.buf - l.filled
