-- That a tree is sound has a proof where it is known that there is one.
use Rattle.std.proofs.Common.{◌≡◌, ℕ, List, [], ◌∷◌, Option, Some, None, refl, sym, subst, arith}
use Rattle.std.proofs.Math.Logic.{∥∥₁_elim}
use mathlib.Core.HLevel.{Unit-prop}
use Rattle.ots_tree.specs.declared.token.Token.{Token}
use Rattle.ots_tree.specs.declared.shape.Shape.{Shape}
use Rattle.ots_tree.specs.Sound.{IsSoundPre}
use Rattle.ots_tree.specs.Front.{Open, opened, start, IsClosed}
use Rattle.ots_tree.proofs.Closing.{front_law}

abbrev IsNil : List Shape → Type 0
IsNil [] = Unit {0}
IsNil (p ∷ ps) = ⊥

IsNil-prop : (ps : List Shape) → IsProp (IsNil ps)
IsNil-prop [] = Unit-prop
IsNil-prop (p ∷ ps) = λ a b. absurd a

is_nil : (ps : List Shape) → IsNil ps → ps ≡ []
is_nil [] h = refl
is_nil (p ∷ ps) h = absurd h

-- no node is open
abbrev IsShut : Option Open → Type 0
IsShut None = ⊥
IsShut (Some s) = IsNil s.nodes

IsShut-prop : (x : Option Open) → IsProp (IsShut x)
IsShut-prop None = λ a b. absurd a
IsShut-prop (Some s) = IsNil-prop s.nodes

shut : (x : Option Open) → IsClosed x → IsShut x
shut None h = absurd h
shut (Some s) h = subst IsNil (sym h) tt

closed : (x : Option Open) → IsShut x → IsClosed x
closed None h = absurd h
closed (Some s) h = is_nil s.nodes h

pub sound_pre : (n : ℕ) (tokens : List Token) → ∥ IsSoundPre n 0 tokens ∥₁ → IsSoundPre n 0 tokens
sound_pre n tokens h =
    let law = front_law n 0 tokens (omega arith) in
    let prefix = opened (start n 0) tokens in
    law.0 (closed prefix (∥∥₁_elim h (IsShut-prop prefix) (λ sound. shut prefix (law.1 sound))))
