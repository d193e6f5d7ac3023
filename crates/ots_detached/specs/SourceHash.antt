-- What hashing a source's whole input answers.
use Rattle.std.specs.Prelude.{◌≡◌, ◌+◌, ◌<◌, ◌≤◌, ℕ, List, length, Option, Result, Ok, Err}
use Rattle.std.specs.Io.KnownBytes.{IsAtEnd}
use Rattle.ots_outside.specs.Streams.{Gives}
use Rattle.ots_ops.specs.Hashed.{hashed}
use Rattle.ots_ops.specs.declared.hash_op.HashOp.{HashOp}
use Rattle.ots_detached.specs.declared.hashing.HashError.{HashError}
use Rattle.ots_detached.specs.declared.hashing.HashError.TheVariants.{ReadFault, FileTooLong}

-- What an answer says of the bytes that came, and whether they are the whole input: a digest is that
-- of the whole, within the limit; an input is too long exactly where more than the limit came.
abbrev pub Tells : HashOp → ℕ → List ℕ → Type 0 → Result (List ℕ) HashError → Type 0
Tells hash limit came whole (Ok digest) = whole × (length came ≤ limit) × (digest ≡ hashed hash came)
Tells hash limit came whole (Err (FileTooLong n)) = (n ≡ limit) × (limit < length came)
Tells hash limit came whole (Err ReadFault) = length came ≤ limit

pub record HashesSource (hash : HashOp) (limit : ℕ) (old new : Option (List ℕ))
    (result : Result (List ℕ) HashError) : Type 0 where
  -- what the reads gave
  pub came : List ℕ
  pub gave : Gives old new came
  pub at_most : length came ≤ limit + 1
  pub tells : Tells hash limit came (IsAtEnd new) result
