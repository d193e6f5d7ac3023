-- A file that is read whole, and what is made of it.
use Rattle.std.specs.Prelude.{◌≡◌, ◌<◌, ◌≤◌, ℕ, List, length, Result, Ok, Err, Vec}
use Rattle.std.specs.declared.alloc.Global.{Global}
use Rattle.ots_outside.specs.declared.reading.ReadAllError.{ReadAllError}
use Rattle.ots_outside.specs.declared.reading.ReadAllError.TheVariants as reading
use Rattle.ots_inputs.specs.declared.error.InputError.{InputError}
use Rattle.ots_inputs.specs.declared.error.InputError.TheVariants.{NoFile, ReadFault, Refused, OutOfMemory}
use Rattle.ots_inputs.specs.declared.file.TooBig.{TooBig}

-- All bytes, of which there are at most `limit`.
abbrev pub GivesBytes : ℕ → List ℕ → Vec ℕ Global → Type 0
GivesBytes limit bytes read = (bytes ≡ read.items) × (length bytes ≤ limit)

-- There are more.
abbrev pub RefusesBytes : ℕ → List ℕ → TooBig → Type 0
RefusesBytes limit bytes e = limit < length bytes

abbrev pub refused_read : ReadAllError → InputError TooBig
refused_read reading.ReadFault = ReadFault
refused_read reading.TooBig = Refused record {}
refused_read reading.OutOfMemory = OutOfMemory

-- What is made of a file's bytes: what they give, or a refusal of them, which is the same for all that are too many; or
-- memory ran out. Why there are no bytes is handed on.
abbrev pub MeansInput : {A R : Type 0} → (List ℕ → A → Type 0) → (List ℕ → R → Type 0) → ℕ
    → Result (Vec ℕ Global) (InputError TooBig) → Result A (InputError R) → Type 0
MeansInput Gives Refuses limit (Ok bytes) (Ok x) = Gives bytes.items x
MeansInput Gives Refuses limit (Ok bytes) (Err NoFile) = ⊥
MeansInput Gives Refuses limit (Ok bytes) (Err ReadFault) = ⊥
MeansInput Gives Refuses limit (Ok bytes) (Err (Refused r)) = Refuses bytes.items r
MeansInput Gives Refuses limit (Ok bytes) (Err OutOfMemory) = Unit {0}
MeansInput Gives Refuses limit (Err e) (Ok x) = ⊥
MeansInput Gives Refuses limit (Err NoFile) (Err e) = e ≡ NoFile
MeansInput Gives Refuses limit (Err ReadFault) (Err e) = e ≡ ReadFault
MeansInput Gives Refuses limit (Err (Refused too_big)) (Err NoFile) = ⊥
MeansInput Gives Refuses limit (Err (Refused too_big)) (Err ReadFault) = ⊥
MeansInput Gives Refuses limit (Err (Refused too_big)) (Err (Refused r)) = (bytes : List ℕ) → limit < length bytes
    → Refuses bytes r
MeansInput Gives Refuses limit (Err (Refused too_big)) (Err OutOfMemory) = ⊥
MeansInput Gives Refuses limit (Err OutOfMemory) (Err e) = e ≡ OutOfMemory

-- What was read of a file has at most `limit` bytes.
abbrev pub IsWithin : ℕ → Result (Vec ℕ Global) (InputError TooBig) → Type 0
IsWithin limit (Ok bytes) = length bytes.items ≤ limit
IsWithin limit (Err e) = Unit {0}
