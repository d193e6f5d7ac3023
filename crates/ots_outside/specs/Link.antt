-- What a link tells, and what its calls do to that.
use Rattle.std.specs.Prelude.{◌≡◌, ◌<◌, ◌≤◌, ℕ, List, [], ◌++◌, length, take, Option, Result, MatchResult}
use Rattle.std.specs.Option.{option_map}
use Rattle.ots_base.specs.Told.{IfTold, BothTold}

pub record LinkTold : Type 0 where
  -- the bytes that are left to read
  pub left : List ℕ
  -- the bytes that reads have given
  pub given : List ℕ
  -- the bytes that writes have taken
  pub taken : List ℕ

-- The whole input: what reads have given, and then what is left.
abbrev pub whole_input : LinkTold → List ℕ
whole_input link = link.given ++ link.left

-- A read gave these bytes.
pub record LinkGives (bytes : List ℕ) (old new : LinkTold) : Type 0 where
  pub left : old.left ≡ bytes ++ new.left
  pub given : new.given ≡ old.given ++ bytes
  pub taken : new.taken ≡ old.taken

-- Writes took these bytes.
pub record LinkTakes (bytes : List ℕ) (old new : LinkTold) : Type 0 where
  pub left : new.left ≡ old.left
  pub given : new.given ≡ old.given
  pub taken : new.taken ≡ old.taken ++ bytes

-- `read(buf)` gave the n bytes at the start of `buf` at `Ok(n)`, none only at the end or with no room, and nothing at
-- `Err`.
abbrev pub LinkReads : {E : Type 0} → Option LinkTold → Option LinkTold → Result ℕ E → List ℕ → Type 0
LinkReads old new result buf =
    MatchResult result
    (λ n. BothTold (LinkGives (take n buf)) old new × (n ≡ 0 → 0 < length buf → IfTold new (λ link. link.left ≡ [])))
    (λ _. new ≡ old)

-- `write(piece)` took the first n bytes of `piece` at `Ok(n)`, and nothing at `Err`.
abbrev pub LinkWrites : {E : Type 0} → Option LinkTold → Option LinkTold → Result ℕ E → List ℕ → Type 0
LinkWrites old new result piece = MatchResult result (λ n. BothTold (LinkTakes (take n piece)) old new) (λ _. new ≡ old)

-- A prefix of these bytes was written.
abbrev pub LinkTakesPrefix : Option LinkTold → Option LinkTold → List ℕ → Type 0
LinkTakesPrefix old new bytes = (n : ℕ) × (n ≤ length bytes) × BothTold (LinkTakes (take n bytes)) old new

-- A link that has given and taken nothing, and counted no fault.
pub record IsFresh (told : Option LinkTold) (count : ℕ) : Type 0 where
  pub given : IfTold told (λ link. link.given ≡ [])
  pub taken : IfTold told (λ link. link.taken ≡ [])
  pub no_fault : count ≡ 0

-- ---- a link that is written as a sink

-- The bytes taken, where they are told.
abbrev pub taken_of : Option LinkTold → Option (List ℕ)
taken_of told = option_map (λ link. link.taken) told

-- All that a link tells but the bytes taken.
abbrev pub but_taken : LinkTold → LinkTold
but_taken link = record link { taken = [] }

-- All that is told stays, but for the bytes taken.
abbrev pub SameButTaken : Option LinkTold → Option LinkTold → Type 0
SameButTaken old new = option_map but_taken new ≡ option_map but_taken old
