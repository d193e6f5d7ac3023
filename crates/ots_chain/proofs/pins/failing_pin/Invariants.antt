use Rattle.std.proofs.Common.{◌≡◌, drop}
use Rattle.ots_chain.specs.Pins.{first_failing}
use Rattle.ots_chain.proofs.pins.failing_pin.Given as goal

-- The pins so far are held.
abbrev pub invariant-loop-pin : goal.invariant-loop-pin
invariant-loop-pin l = first_failing l.headers (drop l.pin-index l.pins) ≡ first_failing l.headers l.pins
