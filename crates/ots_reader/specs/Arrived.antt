-- The bytes that have arrived, as a reader holds them. These words serve its code.
use Rattle.std.specs.Prelude.{◌≡◌, ℕ, ◌+◌, ◌*◌, List, [], Bool, true, false, Option, Result, vec_capacity, ⊤}
use Rattle.std.specs.Borrow.{follows_so, Fml, MutBor}
use mathlib.Core.Option.{none}
use Rattle.ots_reader.specs.declared.arrived.Arrived.{Arrived}
use Rattle.ots_reader.specs.contracts.arrived.Arrived.{the_row}
use Rattle.ots_reader.specs.declared.cut.TheConstants.{MAX_KEPT}
use Rattle.ots_reader.specs.declared.fault.Fault.{Fault}
use Rattle.ots_reader.specs.declared.next.Next.{Next}
use Rattle.ots_reader.specs.Front.{IsStanding}
use Rattle.ots_reader.specs.Tokens.{Tokens, Leaves}

-- the first bytes of the next token, which are none where the last one's are kept
abbrev pub kept_by : Bool → List ℕ → List ℕ
kept_by true bytes = []
kept_by false bytes = bytes

-- how many bytes of memory are taken: a shape is eight bytes
abbrev pub reserved_by : Arrived → ℕ
reserved_by a = vec_capacity a.kept + 8 * a.front.walk.room

abbrev pub tokens_of : Arrived → Tokens
tokens_of a = record {
  shape = a.front.below;
  came = a.front.came.tokens;
  kept = kept_by a.spent a.kept.items;
  reserved = reserved_by a;
}

-- There is room for whatever comes, and no more.
pub record IsHeld (a : Arrived) : Type 0 where
  pub stands : IsStanding a.front
  pub bytes : vec_capacity a.kept ≡ MAX_KEPT

-- None of the kept bytes are those of the last token.
pub record IsAway (old new : Arrived) : Type 0 where
  pub front : new.front ≡ old.front
  pub spent : new.spent ≡ false
  pub kept : new.kept.items ≡ kept_by old.spent old.kept.items

-- What is held after a piece that got this answer.
pub record HoldsAfter (old : Arrived) (piece : List ℕ) (answer : Result (Option Next) Fault)
    (new : Arrived) : Type 0 where
  pub held : IsHeld new
  pub leaves : Leaves (tokens_of old) piece answer (tokens_of new)

-- This holds once the token that was handed out is let go.
abbrev pub Rests : MutBor Arrived → (Arrived → Type 0) → Fml
Rests arrived P = follows_so the_row the_row arrived.ghost_name none (λ _ _. ⊤) P
