-- What a read puts into a buffer after what stands there. It serves the readers' loops.
use Rattle.std.specs.Prelude.{◌≡◌, ℕ, ◌+◌, ◌≤◌, List, [], take, drop, Option, Result, Ok, Err}
use Rattle.ots_base.specs.Told.{IfTold, BothTold}
use Rattle.ots_outside.specs.declared.failed.Failed.{Failed}
use Rattle.ots_outside.specs.Link.{LinkTold, LinkGives}

-- So many bytes came, and stand after the first `filled`. None came only at the end of input.
pub record ReadsAfter (old new : Option LinkTold) (before buffer : List ℕ) (filled end count : ℕ) : Type 0 where
  pub within : filled + count ≤ end
  pub prefix : take filled buffer ≡ take filled before
  pub gives : BothTold (LinkGives (take count (drop filled buffer))) old new
  pub ended : count ≡ 0 → IfTold new (λ link. link.left ≡ [])

-- The same, or nothing where the read failed.
abbrev pub ReadsMore : Option LinkTold → Option LinkTold → List ℕ → List ℕ → ℕ → ℕ → Result ℕ Failed → Type 0
ReadsMore old new before buffer filled end (Ok count) = ReadsAfter old new before buffer filled end count
ReadsMore old new before buffer filled end (Err failed) = new ≡ old

-- The first `count` bytes of the buffer are the first `end` bytes of a text, or all where it is shorter.
abbrev pub HoldsPrefix : List ℕ → ℕ → List ℕ → ℕ → Type 0
HoldsPrefix text end buffer count = take end text ≡ take count buffer
