use Rattle.std.proofs.Common.{◌≡◌, ◌≤◌, ◌-◌, ◌++◌, length, take}
use Rattle.hex.specs.Hex.{encode_lower}
use Rattle.ots_sheet.proofs.lines_sum.LinesSum.add_hex.Given as goal

-- The digits of the bytes up to here came.
abbrev pub invariant-loop-done : goal.invariant-loop-done
invariant-loop-done l = record {
  in_range : l.done ≤ length l.bytes;
  came : l.self ≡ l.fn.self ++ encode_lower (take l.done l.bytes);
}

abbrev pub decreases-loop-done : goal.decreases-loop-done
decreases-loop-done l = length l.bytes - l.done
