-- What is read of a whole input.
use Rattle.std.specs.Prelude.{◌≡◌, ◌<◌, ◌≤◌, ◌+◌, ◌↔◌, ℕ, List, length, Option, Result, IfOk, IsErrOf, Vec}
use Rattle.std.specs.Io.KnownBytes.{IsAtEnd}
use Rattle.std.specs.declared.alloc.Global.{Global}
use Rattle.ots_outside.specs.Streams.{Gives}
use Rattle.ots_outside.specs.declared.reading.ReadAllError.{ReadAllError}
use Rattle.ots_outside.specs.declared.reading.ReadAllError.TheVariants.{TooBig}

-- A source was read to its end, or to the first byte past the limit, or to a refusal.
pub record ReadsAll (limit : ℕ) (old new : Option (List ℕ)) (result : Result (Vec ℕ Global) ReadAllError) : Type 0 where
  -- what the reads gave
  pub came : List ℕ
  pub gave : Gives old new came
  pub at_most : length came ≤ limit + 1
  pub ok : IfOk result (λ bytes. (bytes.items ≡ came) × IsAtEnd new × (length came ≤ limit))
  pub too_big : IsErrOf result TooBig ↔ (limit < length came)
