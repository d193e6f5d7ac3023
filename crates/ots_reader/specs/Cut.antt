-- A token of which the first bytes have come. These words serve the code that keeps them.
use Rattle.std.specs.Prelude.{◌≡◌, ◌≢◌, ℕ, ◌+◌, ◌≤◌, List, ◌++◌, length, Option, Some, None, Result, Ok, Err}
use Rattle.ots_tree.specs.declared.token.Token.{Token}
use Rattle.ots_tree.specs.declared.token_ref.TokenRef.{TokenRef}
use Rattle.ots_tree.specs.TokenRef.{token_of}
use Rattle.ots_tree.specs.Wire.{spell, IsToken}
use Rattle.ots_reader.specs.declared.fault.Reason.{Reason}
use Rattle.ots_reader.specs.declared.fault.Reason.TheVariants.{Truncated}
use Rattle.ots_reader.specs.TokenFault.{token_fault}
use Rattle.ots_reader.specs.TokenRead.{IsTokenAt}

-- the bytes end before the token that they begin with does, which may be before its first byte
abbrev pub IsCut : List ℕ → Type 0
IsCut bytes = token_fault bytes ≡ Some Truncated

-- the bytes begin with no token, and not because they end
abbrev pub IsSettled : List ℕ → Reason → Type 0
IsSettled bytes r = (token_fault bytes ≡ Some r) × (r ≢ Truncated)

-- the bytes are the token's spelling
pub record IsSpelling (bytes : List ℕ) (x : Token) : Type 0 where
  pub fits : IsToken x
  pub is : bytes ≡ spell x

-- How many of the bytes spell the token at their start, nothing where it ends later, or its fault.
abbrev pub ReadsWhole : List ℕ → Result (Option ℕ) Reason → Type 0
ReadsWhole bytes (Ok (Some used)) = (x : Token) × IsTokenAt bytes x used
ReadsWhole bytes (Ok None) = IsCut bytes
ReadsWhole bytes (Err r) = IsSettled bytes r

-- The same, with the token.
abbrev pub FindsWhole : List ℕ → Result (Option (TokenRef × ℕ)) Reason → Type 0
FindsWhole bytes (Ok (Some (x, used))) = IsTokenAt bytes (token_of x) used
FindsWhole bytes (Ok None) = IsCut bytes
FindsWhole bytes (Err r) = IsSettled bytes r

-- The token ends within the piece, of which it takes `used` bytes, and it began with the old ones.
pub record IsJoinedAt (old piece : List ℕ) (x : Token) (used : ℕ) : Type 0 where
  pub token : IsTokenAt (old ++ piece) x (length old + used)
  pub some : 1 ≤ used
  pub within : used ≤ length piece

-- What is read of `old` with the piece after it, and which bytes are kept then.
abbrev pub ReadsOn : List ℕ → List ℕ → List ℕ → Result (Option ℕ) Reason → Type 0
ReadsOn old piece kept (Ok (Some used)) = (x : Token) × IsJoinedAt old piece x used × IsSpelling kept x
ReadsOn old piece kept (Ok None) = IsCut kept × (kept ≡ old ++ piece)
ReadsOn old piece kept (Err r) = IsSettled (old ++ piece) r
