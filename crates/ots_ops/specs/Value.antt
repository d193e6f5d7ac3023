-- What operations make of a message, one after the other (python-opentimestamps,
-- opentimestamps/core/timestamp.py: the message at the end of a path).
use Rattle.std.specs.Prelude.{ℕ, List, [], ◌∷◌, length, Option, Some, None, option_and_then}
use Rattle.std.specs.Option.{option_or}
use Rattle.ots_ops.specs.Apply.{apply}
use Rattle.ots_ops.specs.ResultLength.{refusal}
use Rattle.ots_ops.specs.declared.op.Op.{Op}
use Rattle.ots_ops.specs.declared.length.OpError.{OpError}

-- It is defined exactly where each operation has a result on the value of those before it.
abbrev pub value : List Op → List ℕ → Option (List ℕ)
value [] message = Some message
value (o ∷ ops) message = option_and_then (value ops) (apply o message)

-- Why there is no value: the refusal of the first operation in order that has no result, and none
-- where each has one.
abbrev pub value_refusal : List Op → List ℕ → Option OpError
value_refusal [] message = None
value_refusal (o ∷ ops) message = option_or (refusal o (length message))
    (option_and_then (value_refusal ops) (apply o message))
