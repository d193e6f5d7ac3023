-- What reading a header table answers.
use Rattle.std.specs.Prelude.{◌≡◌, ◌≢◌, ◌+◌, ◌≤◌, ◌⊎◌, ◌%◌, ℕ, List, length, Option, Result, Ok, Err}
use Rattle.std.specs.Io.KnownBytes.{IsAtEnd}
use Rattle.ots_base.specs.declared.limits.TheConstants.{MAX_HEADER_FILE}
use Rattle.ots_outside.specs.Streams.{Gives}
use Rattle.ots_headers.specs.declared.headers.HeadersError.{HeadersError}
use Rattle.ots_headers.specs.declared.headers.HeadersError.TheVariants.{ReadFault, BadHeaders, OutOfMemory}
use Rattle.ots_headers.specs.HeaderTable.{Table, IsTable, all_serialized}

-- The table of these bytes, the first of them at this height.
pub record IsTableOf (height : ℕ) (b : List ℕ) (t : Table) : Type 0 where
  pub first : t.first ≡ height
  pub headers : all_serialized t.headers ≡ b
  pub limits : IsTable t

-- So many bytes are no headers, though not too many: none, or a last header that is cut.
abbrev pub IsCut : ℕ → Type 0
IsCut n = (n ≤ MAX_HEADER_FILE) × ((n ≡ 0) ⊎ (n % 80 ≢ 0))

-- the refusal of n bytes
abbrev pub IsCutError : ℕ → HeadersError → Type 0
IsCutError n (BadHeaders m) = (m ≡ n) × IsCut n
IsCutError n ReadFault = ⊥
IsCutError n OutOfMemory = ⊥

-- What an answer says of the bytes that came from a source, and whether they are its whole input.
-- Where more than 83,886,080 bytes are there, one byte past that number came.
abbrev pub Tells : ℕ → List ℕ → Type 0 → Result Table HeadersError → Type 0
Tells first came whole (Ok table) = whole × IsTableOf first came table
Tells first came whole (Err (BadHeaders n)) = (n ≡ length came) × ((whole × IsCut n) ⊎ (n ≡ MAX_HEADER_FILE + 1))
Tells first came whole (Err ReadFault) = Unit {0}
Tells first came whole (Err OutOfMemory) = Unit {0}

pub record ReadsTable (first : ℕ) (old new : Option (List ℕ)) (result : Result Table HeadersError) : Type 0 where
  -- what the reads gave
  pub came : List ℕ
  pub gave : Gives old new came
  pub at_most : length came ≤ MAX_HEADER_FILE + 1
  pub tells : Tells first came (IsAtEnd new) result
