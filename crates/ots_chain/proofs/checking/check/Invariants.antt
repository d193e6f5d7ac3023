use Rattle.std.proofs.Common.{◌≡◌, ◌+◌, ◌-◌, ◌≤◌, ◌<◌, length}
use Rattle.ots_chain.specs.Chain.{AreGood, IsTip}
use Rattle.ots_chain.proofs.checking.check.Given as goal

abbrev pub invariant-loop-header : goal.invariant-loop-header
invariant-loop-header l =
    (l.first ≡ l.headers.first) × (l.first ≤ l.height) × (l.height ≤ l.first + length l.headers.headers)
    × AreGood l.headers l.height × (l.first < l.height → IsTip l.headers (l.height - 1) l.tip)

abbrev pub decreases-loop-header : goal.decreases-loop-header
decreases-loop-header l = l.first + length l.headers.headers - l.height
