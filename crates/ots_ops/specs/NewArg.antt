-- What bytes are as an argument.
use Rattle.std.specs.Prelude.{ℕ, List, length, nat_eq, nat_lt, if◌then◌else◌, Result, Ok, Err}
use Rattle.ots_base.specs.declared.limits.TheConstants.{MAX_ARGUMENT}
use Rattle.ots_ops.specs.declared.arg.Arg.{Arg}
use Rattle.ots_ops.specs.declared.arg.ArgError.{ArgError}
use Rattle.ots_ops.specs.declared.arg.ArgError.TheVariants.{Empty, TooLong}

-- The argument, or why these bytes are none.
abbrev pub new_arg : List ℕ → Result Arg ArgError
new_arg bytes =
    if nat_eq (length bytes) 0 then Err Empty
    else if nat_lt MAX_ARGUMENT (length bytes) then Err (TooLong (length bytes))
    else Ok bytes
