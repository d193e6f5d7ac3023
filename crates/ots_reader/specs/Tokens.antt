-- A reader that hands out the tokens of a tree one by one: what has come, and what each piece is answered.
use Rattle.std.specs.Prelude.{◌≡◌, ◌≢◌, ℕ, List, [], ◌∷◌, ◌++◌, length, take, Bool, true, false, Option, Some, None}
use Rattle.std.specs.Prelude.{Result, Ok, Err}
use Rattle.ots_tree.specs.declared.shape.Shape.{Shape}
use Rattle.ots_tree.specs.declared.token.Token.{Token}
use Rattle.ots_tree.specs.TokenRef.{token_of}
use Rattle.ots_tree.specs.Wire.{spelled}
use Rattle.ots_tree.specs.Front.{Open, start, opened}
use Rattle.ots_reader.specs.declared.fault.Fault.{Fault}
use Rattle.ots_reader.specs.declared.fault.Reason.TheVariants.{Truncated}
use Rattle.ots_reader.specs.declared.next.Next.{Next}
use Rattle.ots_reader.specs.declared.token_reader.TheConstants.{TOKEN_READER_BYTES}
use Rattle.ots_reader.specs.Cut.{IsCut, IsJoinedAt}
use Rattle.ots_reader.specs.OneAnswer.{IsShape}
use Rattle.ots_reader.specs.TreeFault.{IsFront, HasTreeFault}
use Rattle.ots_reader.specs.Progress.{EndsIn}

-- what the tree stands below, the tokens that have come, the first bytes of the next one, and how many bytes of memory
-- are taken
pub record Tokens : Type 0 where
  pub shape : Shape
  pub came : List Token
  pub kept : List ℕ
  pub reserved : ℕ

-- before the first byte
abbrev pub begun : Shape → Tokens
begun shape = record { shape = shape; came = []; kept = []; reserved = TOKEN_READER_BYTES }

-- after one more token
abbrev pub with_token : Tokens → Token → Tokens
with_token r x = record { shape = r.shape; came = r.came ++ x ∷ []; kept = []; reserved = r.reserved }

-- after more bytes of the next token
abbrev pub with_bytes : Tokens → List ℕ → Tokens
with_bytes r piece = record { shape = r.shape; came = r.came; kept = r.kept ++ piece; reserved = r.reserved }

-- all bytes so far
abbrev pub so_far : Tokens → List ℕ
so_far r = spelled r.came ++ r.kept

-- The tree goes on: a node is open after the tokens, and the next one is cut.
pub record IsReading (r : Tokens) : Type 0 where
  pub shape : IsShape r.shape.length r.shape.depth
  pub at : Shape
  pub others : List Shape
  pub forked : Bool
  pub is_front : IsFront r.shape.length r.shape.depth r.came at others forked
  pub cut : IsCut r.kept

-- After this token the tree goes on, or it is whole.
abbrev pub Stands : Bool → Tokens → List ℕ → ℕ → Tokens → Type 0
Stands false old piece used new = IsReading new
Stands true old piece used new = EndsIn old.shape (so_far old) piece new.came used

-- This token came with the first `used` bytes of the piece.
pub record Brings (old : Tokens) (piece : List ℕ) (next : Next) : Type 0 where
  pub joined : IsJoinedAt old.kept piece (token_of next.token) next.used
  pub fed : so_far (with_token old (token_of next.token)) ≡ so_far old ++ take next.used piece
  pub stands : Stands next.last old piece next.used (with_token old (token_of next.token))

-- The next token has this fault, which is another than that the bytes end.
pub record Stops (old : Tokens) (piece : List ℕ) (f : Fault) : Type 0 where
  pub place : f.place ≡ length (spelled old.came)
  pub fault : HasTreeFault old.shape.length old.shape.depth (so_far old ++ piece) f
  pub other : f.reason ≢ Truncated

-- What a piece is answered.
abbrev pub Nexts : Tokens → List ℕ → Result (Option Next) Fault → Type 0
Nexts old piece (Ok (Some next)) = Brings old piece next
Nexts old piece (Ok None) = IsReading (with_bytes old piece)
Nexts old piece (Err f) = Stops old piece f

-- What has come then.
abbrev pub Leaves : Tokens → List ℕ → Result (Option Next) Fault → Tokens → Type 0
Leaves old piece (Ok (Some next)) new = new ≡ with_token old (token_of next.token)
Leaves old piece (Ok None) new = new ≡ with_bytes old piece
Leaves old piece (Err f) new = (new.shape ≡ old.shape) × (new.reserved ≡ old.reserved)

abbrev pub is_none : List Shape → Bool
is_none [] = true
is_none (p ∷ ps) = false

-- The answer is this token, of which `used` bytes are the piece's, and whether it is the tree's last one.
abbrev pub IsNext : Token → ℕ → Bool → Result (Option Next) Fault → Type 0
IsNext x used last (Ok (Some next)) = (token_of next.token ≡ x) × (next.used ≡ used) × (next.last ≡ last)
IsNext x used last (Ok None) = ⊥
IsNext x used last (Err f) = ⊥

-- The same the other way: which answer each bytes come to.
pub record IsExactNext (old : Tokens) (piece : List ℕ) (answer : Result (Option Next) Fault) : Type 0 where
  pub comes : (x : Token) (used : ℕ) (s : Open) → IsJoinedAt old.kept piece x used
      → opened (start old.shape.length old.shape.depth) (old.came ++ x ∷ []) ≡ Some s
      → IsNext x used (is_none s.nodes) answer
  pub stops : (f : Fault) → Stops old piece f → answer ≡ Err f
  pub goes_on : IsCut (old.kept ++ piece) → answer ≡ Ok None
