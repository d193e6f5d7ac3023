-- Every list of bytes has a fault or begins with a sound tree.
use Rattle.std.proofs.Common.{◌≡◌, ℕ, zero, suc, ◌+◌, ◌<◌, Bool, false, List, [], ◌∷◌, ◌++◌, length, drop, None, Some, refl, sym, ap, ◌∙◌, inl, inr, arith}
use Rattle.std.specs.Prelude.{◌⊎◌, ◌↔◌}
use Rattle.ots_ops.specs.Arg.{AreBytes}
use Rattle.ots_tree.specs.declared.shape.Shape.{Shape}
use Rattle.ots_tree.specs.declared.token.Token.{Token}
use Rattle.ots_tree.proofs.Determined.{bytes-apart}
use Rattle.ots_reader.specs.declared.fault.Fault.{Fault}
use Rattle.ots_reader.specs.TokenFault.{token_fault}
use Rattle.ots_reader.specs.TreeFault.{BeginsWith, HasTreeFault}
use Rattle.ots_reader.specs.TreeRead.{IsTreeAt}
use Rattle.ots_reader.specs.OneAnswer.{IsShape, HasOneFault, HasOneTree}
use Rattle.ots_reader.proofs.ByteLists.{all_drop}
use Rattle.ots_reader.proofs.NoTokenFault.{token_ok}
use Rattle.ots_reader.proofs.OneFault.{open_at, one_fault_lem}
use Rattle.ots_reader.proofs.Places.{leads_or}
use Rattle.ots_reader.proofs.TokenOrFault.{token_or_fault}
use Rattle.ots_reader.proofs.Walk.{IsWalk, walk_start, walk_more, walk_message, walk_read, walk_place, token_room, token_stops, place_stops, node_at, node_front}

-- ---- a token

pub token_or_not : (input : List ℕ) → AreBytes input → (token_fault input ≡ None) ↔ ((x : Token) × BeginsWith input x)
token_or_not input all = (
  λ e. elim (token_or_fault input all) [
    | inl f ↦ absurd (let clash : None ≡ Some f.reason = sym e ∙ f.is in cc)
    | inr t ↦ (t.x, record { fits = t.is.fits; rest = drop t.used input; spelled = t.is.front })
  ],
  λ (x, b). ap token_fault b.spelled ∙ token_ok x b.rest b.fits,
)

-- ---- the walk ends

record FaultStands (n k : ℕ) (input : List ℕ) : Type 0 where
  fault : Fault
  is : HasTreeFault n k input fault

record TreeBegins (n k : ℕ) (input : List ℕ) : Type 0 where
  tokens : List Token
  used : ℕ
  is : IsTreeAt n k input tokens used

abbrev Ends : ℕ → ℕ → List ℕ → Type 0
Ends n k input = FaultStands n k input ⊎ TreeBegins n k input

ends : (fuel n k : ℕ) (input : List ℕ) (ts : List Token) (nodes : List Shape) (forked : Bool) (place : ℕ) → IsShape n k → AreBytes input
    → IsWalk n k input ts (record { nodes = nodes; forked = forked }) place → length input < place + fuel → Ends n k input
ends fuel n k input ts [] forked place shape all w room = inr (record { tokens = ts; used = place; is = walk_read n k input ts (record { nodes = []; forked = forked }) place shape.depth w refl })
ends zero n k input ts (at ∷ others) forked place shape all w room = absurd (let h = walk_place n k input ts (open_at at others forked) place w in omega arith)
ends (suc fuel) n k input ts (at ∷ others) forked place shape all w room =
    elim (token_or_fault (drop place input) (all_drop (λ b. b < 256) place input all)) [
      | inl f ↦ inl (record { fault = record { place = place; reason = f.reason }; is = token_stops n k input ts at others forked place f.reason w f.is })
      | inr t ↦ elim (leads_or at others forked t.x (walk_message n k input ts at others forked place shape w)) [
        | inl f ↦ inl (record { fault = record { place = place; reason = f.reason }; is = place_stops n k input ts at others forked place t.used t.x f.reason w t.is f.is })
        | inr l ↦
            let more = token_room n k input ts (open_at at others forked) place t.used t.x w t.is in
            ends fuel n k input (ts ++ t.x ∷ []) l.state.nodes l.state.forked (place + t.used) shape all
            (walk_more n k input ts (open_at at others forked) l.state place t.used t.x w t.is l.is) (omega arith)
      ]
    ]

-- ---- one of them, and one alone

pub fault_or_tree_lem : (n k : ℕ) (input : List ℕ) → IsShape n k → AreBytes input → HasOneFault n k input ⊎ HasOneTree n k input
fault_or_tree_lem n k input shape all =
    elim (ends (length input + 1) n k input [] (record { length = n; depth = k } ∷ []) false 0 shape all (walk_start n k input) (omega arith)) [
      | inl f ↦ inl (record { fault = f.fault; has = f.is; only = λ g has. one_fault_lem n k input g f.fault has f.is })
      | inr t ↦
          let sound = node_at n k input t.tokens t.used t.is in
          let front = node_front n k input t.tokens t.used t.is in
          inr (record {
            node = t.is.sound.0;
            rest = drop t.used input;
            sound = sound;
            spelled = front;
            only = λ u rest for whole. (bytes-apart u t.is.sound.0 rest (drop t.used input) for.fits sound.fits (sym whole ∙ front)).0;
          })
    ]
