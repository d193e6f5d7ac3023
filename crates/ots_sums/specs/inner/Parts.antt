-- The parts of a line, and names that are read from them.
use Rattle.std.specs.Prelude.{◌≡◌, ◌≢◌, ◌≤◌, ◌⊎◌, ℕ, Bool, true, false, List, ◌∷◌, ◌++◌, length, take, Result, Ok, Err}
use Rattle.std.specs.List.{AllByRecursion}
use Rattle.hex.specs.Hex.{IsBytes, encode_lower}
use Rattle.ots_base.specs.declared.out_of_memory.OutOfMemory.{OutOfMemory}
use Rattle.ots_sums.specs.Sums.{Entry}
use Rattle.ots_sums.specs.Names.{IsName, escape_of, escaped, needs_escape, spelled}

abbrev pub IsDigest : List ℕ → Type 0
IsDigest digest = (length digest ≡ 32) × IsBytes digest

-- A blank, how the file was read, and a name.
pub record IsRest (rest name : List ℕ) : Type 0 where
  pub kind : ℕ
  pub text_or_binary : (kind ≡ 32) ⊎ (kind ≡ 42)
  pub split : rest ≡ 32 ∷ kind ∷ name

-- A digest, and these.
pub record IsBody (text digest name : List ℕ) : Type 0 where
  pub rest : List ℕ
  pub is_rest : IsRest rest name
  pub split : text ≡ encode_lower digest ++ rest
  pub is_digest : IsDigest digest

-- A byte stands escaped at the start of a text, which has this rest.
pub record Starts (text : List ℕ) (byte : ℕ) (rest : List ℕ) : Type 0 where
  pub split : text ≡ spelled byte (escape_of byte) ++ rest
  pub no_nul : byte ≢ 0

-- A text spells a name.
pub record Spells (text name : List ℕ) : Type 0 where
  pub spelling : text ≡ escaped name
  pub no_nul : AllByRecursion (λ b. b ≢ 0) name

-- The name is spelled with or without escapes.
pub record SpellsName (text : List ℕ) (is_escaped : Bool) (name : List ℕ) : Type 0 where
  pub spelling : text ≡ escaped name
  pub marked : needs_escape name ≡ is_escaped
  pub is_name : IsName name

-- What stands in a line after its mark has this entry.
pub record IsText (text : List ℕ) (is_escaped : Bool) (e : Entry) : Type 0 where
  pub rest : List ℕ
  pub body : IsBody text e.digest rest
  pub name : SpellsName rest is_escaped e.name

-- The text up to a place spells what was put after other bytes.
pub record Unescaped (text old new : List ℕ) (at : ℕ) : Type 0 where
  pub name : List ℕ
  pub put : new ≡ old ++ name
  pub spells : Spells (take at text) name
  pub within : at ≤ length text

-- The name that a text spells was put after other bytes, or none is spelled and something was put.
abbrev pub PutsWhere : (List ℕ → Type 0) → List ℕ → List ℕ → Result Bool OutOfMemory → Type 0
PutsWhere P old new (Ok true) = (name : List ℕ) × (new ≡ old ++ name) × P name
PutsWhere P old new (Ok false) = ((name : List ℕ) → P name → ⊥) × ((more : List ℕ) × (new ≡ old ++ more))
PutsWhere P old new (Err e) = (more : List ℕ) × (new ≡ old ++ more)
