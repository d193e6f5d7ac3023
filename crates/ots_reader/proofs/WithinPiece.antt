-- Reading the tokens of a piece.
use Rattle.std.proofs.Common.{◌≡◌, ℕ, ◌+◌, ◌-◌, ◌<◌, ◌≤◌, ◌^◌, List, [], ◌∷◌, ◌++◌, length, take, drop, refl, sym, ap, ◌∙◌, arith, append_assoc, length-append, length-drop}
use Rattle.std.specs.Prelude.{Bool, true, false}
use Rattle.std.proofs.Math.Seq.{take-add}
use Rattle.std.proofs.lemmas.List.{take_all, take-append-drop, length-take-le}
use Rattle.ots_tree.specs.declared.token.Token.{Token}
use Rattle.ots_tree.specs.TokenRef.{token_of}
use Rattle.ots_tree.specs.Wire.{spelled}
use Rattle.ots_reader.specs.declared.fault.Fault.{Fault}
use Rattle.ots_reader.specs.declared.fault.ReadError.TheVariants as error
use Rattle.ots_reader.specs.declared.next.Next.{Next}
use Rattle.ots_reader.specs.Held.{IsReadTo}
use Rattle.ots_reader.specs.Progress.{EndsIn, IsRefusal}
use Rattle.ots_reader.specs.Tokens.{Tokens, with_token, with_bytes, so_far, IsReading, Stands, Brings, Stops}

-- so many bytes of the piece have come, and their tokens are kept
pub record IsReadUpTo (old : Tokens) (piece : List ℕ) (now : Tokens) (kept : List Token) (at : ℕ) : Type 0 where
  pub read : IsReadTo old (take at piece) now
  pub tokens : kept ≡ now.came
  pub within : at ≤ length piece

-- the bytes of the piece from this place on, as a slice names them
abbrev slice_from : ℕ → List ℕ → List ℕ
slice_from place piece = take (length piece - place) (drop place piece)

slice_is : (place : ℕ) (piece : List ℕ) → slice_from place piece ≡ drop place piece
slice_is place piece = take_all (length piece - place) (drop place piece) (omega (arith, length-drop place piece))

-- all bytes, from where the reader stands
all_bytes : (old now : Tokens) (piece : List ℕ) (tokens : List Token) (at : ℕ) → IsReadUpTo old piece now tokens at → so_far now ++ slice_from at piece ≡ so_far old ++ piece
all_bytes old now piece tokens at r =
    rw (slice_is at piece, r.read.fed, append_assoc (so_far old) (take at piece) (drop at piece), take-append-drop at piece) refl

pub few_more : (old now : Tokens) (piece : List ℕ) (tokens : List Token) (at : ℕ) → IsReadUpTo old piece now tokens at → length (so_far old) + length piece < 2 ^ 64
    → length (so_far now) + length (slice_from at piece) < 2 ^ 64
few_more old now piece tokens at r few =
    omega (arith, ap length (all_bytes old now piece tokens at r), length-append (so_far now) (slice_from at piece), length-append (so_far old) piece)

-- the next token's bytes are the piece's, too
fed_more : (old now new : Tokens) (piece : List ℕ) (tokens : List Token) (at used : ℕ) → IsReadUpTo old piece now tokens at → so_far new ≡ so_far now ++ take used (slice_from at piece)
    → so_far new ≡ so_far old ++ take (at + used) piece
fed_more old now new piece tokens at used r e =
    e ∙ rw (slice_is at piece, r.read.fed, append_assoc (so_far old) (take at piece) (take used (drop at piece)), take-add at used piece) refl

within_more : (at used : ℕ) (piece : List ℕ) → at ≤ length piece → used ≤ length (slice_from at piece) → at + used ≤ length piece
within_more at used piece within few = omega (arith, ap length (slice_is at piece), length-drop at piece)

still : (last : Bool) (old : Tokens) (piece : List ℕ) (used : ℕ) (new : Tokens) → last ≡ false → Stands last old piece used new → IsReading new
still last old piece used new e s = rw e at s

pub read_more : (old now new : Tokens) (piece : List ℕ) (tokens more : List Token) (at : ℕ) (next : Next) → IsReadUpTo old piece now tokens at → Brings now (slice_from at piece) next
    → new ≡ with_token now (token_of next.token) → next.last ≡ false → more ≡ tokens ++ token_of next.token ∷ [] → IsReadUpTo old piece new more (at + next.used)
read_more old now new piece tokens more at next r b is going e =
    let after = with_token now (token_of next.token) in
    rw is (record {
      read = record { shape = r.read.shape; reading = still next.last now (slice_from at piece) next.used after going b.stands; fed = fed_more old now after piece tokens at next.used r b.fed };
      tokens = e ∙ ap (λ (z : List Token). z ++ token_of next.token ∷ []) r.tokens;
      within = within_more at next.used piece r.within b.joined.within;
    })

-- ---- the piece ends

pub read_whole : (old now new : Tokens) (piece : List ℕ) (tokens : List Token) (at : ℕ) → IsReadUpTo old piece now tokens at → IsReading (with_bytes now (slice_from at piece))
    → new ≡ with_bytes now (slice_from at piece) → IsReadTo old piece new × (tokens ≡ new.came)
read_whole old now new piece tokens at r k is =
    rw is (
      record { shape = r.read.shape; reading = k; fed = sym (append_assoc (spelled now.came) now.kept (slice_from at piece)) ∙ all_bytes old now piece tokens at r },
      r.tokens,
    )

-- ---- the tree ends

ended : (last : Bool) (old : Tokens) (piece : List ℕ) (used : ℕ) (new : Tokens) → last ≡ true → Stands last old piece used new → EndsIn old.shape (so_far old) piece new.came used
ended last old piece used new e s = rw e at s

pub read_ended : (old now : Tokens) (piece : List ℕ) (tokens more : List Token) (at : ℕ) (next : Next) → IsReadUpTo old piece now tokens at → Brings now (slice_from at piece) next
    → next.last ≡ true → more ≡ tokens ++ token_of next.token ∷ [] → EndsIn old.shape (so_far old) piece more (at + next.used)
read_ended old now piece tokens more at next r b whole e =
    let end = ended next.last now (slice_from at piece) next.used (with_token now (token_of next.token)) whole b.stands in
    let same : more ≡ now.came ++ token_of next.token ∷ [] = e ∙ ap (λ (z : List Token). z ++ token_of next.token ∷ []) r.tokens in
    let size : length (so_far now) + next.used ≡ length (so_far old) + (at + next.used) =
    omega (arith, ap length r.read.fed, length-append (so_far old) (take at piece), length-take-le at piece r.within) in
    let some = b.joined.some in
    record {
      is_tree = rw (same, ← size, ← all_bytes old now piece tokens at r, ← r.read.shape) end.is_tree;
      some = omega arith;
      within = within_more at next.used piece r.within b.joined.within;
    }

-- ---- a fault

pub read_refused : (old now : Tokens) (piece : List ℕ) (tokens : List Token) (at : ℕ) (f : Fault) → IsReadUpTo old piece now tokens at → Stops now (slice_from at piece) f
    → IsRefusal old.shape (so_far old ++ piece) (error.Fault f)
read_refused old now piece tokens at f r s = (rw (← all_bytes old now piece tokens at r, ← r.read.shape) s.fault, s.other)

-- ---- the new token is kept

pub pushed : (tokens more : List Token) (x y : Token) → more ≡ tokens ++ y ∷ [] → y ≡ x → more ≡ tokens ++ x ∷ []
pushed tokens more x y is same = is ∙ ap (λ (z : Token). tokens ++ z ∷ []) same
