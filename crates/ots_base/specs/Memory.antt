-- Want of memory, the one answer that may come in place of any other.
use Rattle.std.specs.Prelude.{◌≡◌, Result, Err}

-- The answer is this one, unless memory ran out, which the error `no_memory` says.
abbrev pub UnlessOutOfMemory : {T E : Type 0} → E → Result T E → Result T E → Type 0
UnlessOutOfMemory no_memory answer defined = (answer ≡ Err no_memory → ⊥) → answer ≡ defined
