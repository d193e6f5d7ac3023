-- The argument of an append or a prepend (python-opentimestamps, opentimestamps/core/op.py:
-- BinaryOp reads at least 1 byte and at most MAX_RESULT_LENGTH).
use Rattle.std.specs.Prelude.{ℕ, ◌<◌, ◌≤◌, List, length}
use Rattle.std.specs.List.{AllByRecursion}
use Rattle.ots_base.specs.declared.limits.TheConstants.{MAX_ARGUMENT}

-- A list of bytes.
abbrev pub AreBytes : List ℕ → Type 0
AreBytes bytes = AllByRecursion (λ byte. byte < 256) bytes

-- An argument is 1 to MAX_ARGUMENT bytes, 4096.
pub record IsArg (bytes : List ℕ) : Type 0 where
  pub least : 1 ≤ length bytes
  pub greatest : length bytes ≤ MAX_ARGUMENT
  pub are_bytes : AreBytes bytes
