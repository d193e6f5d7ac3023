-- A message (python-opentimestamps, opentimestamps/core/op.py, MAX_MSG_LENGTH).
use Rattle.std.specs.Prelude.{ℕ, ◌≤◌, List, length}
use Rattle.ots_base.specs.declared.limits.TheConstants.{MAX_MESSAGE}
use Rattle.ots_ops.specs.Arg.{AreBytes}

-- A message is at most MAX_MESSAGE bytes, 4096.
pub record IsMessage (bytes : List ℕ) : Type 0 where
  pub greatest : length bytes ≤ MAX_MESSAGE
  pub are_bytes : AreBytes bytes
