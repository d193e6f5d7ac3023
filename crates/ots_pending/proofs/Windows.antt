-- Where a window ends.
use Rattle.std.proofs.Common.{◌≡◌, ℕ, ◌+◌, ◌-◌, ◌^◌, ◌<◌, ◌≤◌, min, inl, inr, Bool, true, false, List, Option, None, Some, refl, sym, ap, subst, ◌∙◌, arith}
use Rattle.std.specs.Prelude.{◌⊎◌}
use Rattle.ots_attest.specs.declared.attestation.Attestation.{Attestation}
use Rattle.ots_tree.specs.declared.token.Token.{Token}
use Rattle.ots_tree.specs.declared.token.Token.TheVariants as token
use Rattle.ots_tree.specs.PendingWalk.{ended}
use Rattle.ots_tree.specs.Wire.{Node}
use Rattle.ots_pending.specs.Pairs.{PairAt}
use Rattle.ots_pending.specs.Grown.{answer_at, length_put, next_after, tree_at, IsBetween, IsPairOf, IsPutFor, IsWithin, MayBe}

-- A walk has come to a token: so many paths have ended before, trees of so many bytes were put, and the window has come
-- to the path `next`.
pub record IsOn (from room at count next length : ℕ) : Type 0 where
  pub fits : length ≤ 2 ^ 64 - 1
  pub counted : count ≤ at
  pub low : from ≤ next
  pub high : (next ≤ from) ⊎ (next ≤ count)
  pub goes : (length ≡ 0) ⊎ (from < next)
  pub has_room : (count ≤ next) ⊎ (room < length)

pub begins : (from room : ℕ) → IsOn from room 0 0 from 0
begins from room = record { fits = omega arith; counted = omega arith; low = omega arith; high = inl (omega arith); goes = inl refl; has_room = inl (omega arith) }

-- a token ends a path, or no tree is put for it
abbrev Ends : ℕ → ℕ → ℕ → Type 0
Ends put n after = ((after ≡ n) × (put ≡ 0)) ⊎ (after ≡ n + 1)

none_for : (pairs : List PairAt) (ready : List (Option (List Token))) (x : Token) (depth : ℕ) (messages : List (List ℕ)) (place : Option ℕ)
    → ((a : Attestation) → x ≡ token.Attestation a → ⊥) → IsPairOf pairs x depth messages place → tree_at ready place ≡ None
none_for pairs ready x depth messages None other h = refl
none_for pairs ready x depth messages (Some i) other h = absurd (other _ h.pending)

no_tree : (pairs : List PairAt) (ready : List (Option (List Token))) (x : Token) (depth : ℕ) (messages : List (List ℕ)) (goes_on : Bool) (tree : Option (List Token))
    → ((a : Attestation) → x ≡ token.Attestation a → ⊥) → IsPutFor pairs ready x depth messages goes_on tree → length_put tree ≡ 0
no_tree pairs ready x depth messages true tree other h = ap length_put (h.tree_is ∙ none_for pairs ready x depth messages h.place other h.is)
no_tree pairs ready x depth messages false tree other h = ap length_put h

ends : (pairs : List PairAt) (ready : List (Option (List Token))) (x : Token) (n depth : ℕ) (messages : List (List ℕ)) (goes_on : Bool) (tree : Option (List Token))
    → IsPutFor pairs ready x depth messages goes_on tree → Ends (length_put tree) n (ended x n)
ends pairs ready token.Fork n depth messages goes_on tree h = inl (refl, no_tree pairs ready token.Fork depth messages goes_on tree (λ a e. absurd cc) h)
ends pairs ready (token.Op o) n depth messages goes_on tree h = inl (refl, no_tree pairs ready (token.Op o) depth messages goes_on tree (λ a e. absurd cc) h)
ends pairs ready (token.Attestation a) n depth messages goes_on tree h = inr refl

outside : (pairs : List PairAt) (ready : List (Option (List Token))) (x : Token) (depth : ℕ) (messages : List (List ℕ)) (goes_on : Bool) (tree : Option (List Token))
    → IsPutFor pairs ready x depth messages goes_on tree → goes_on ≡ false → length_put tree ≡ 0
outside pairs ready x depth messages true tree h e = absurd cc
outside pairs ready x depth messages false tree h e = ap length_put h

module _ (from room at count next length put after to more : ℕ) where
  goes_on : (goes_on : Bool) → IsOn from room at count next length → IsWithin from room count length goes_on → Ends put count after → (goes_on ≡ false → put ≡ 0)
      → to ≡ next_after goes_on after next → more ≡ min (length + put) (2 ^ 64 - 1) → IsOn from room (at + 1) after to more
  goes_on true h w step none e m =
      let fits = h.fits in
      let counted = h.counted in
      let begun = w.0 in
      record {
        fits = omega arith;
        counted = elim step [ inl s ↦ (let same = s.0 in omega arith) | inr s ↦ omega arith ];
        low = elim step [ inl s ↦ (let same = s.0 in omega arith) | inr s ↦ omega arith ];
        high = inr (omega arith);
        goes = elim step [
          | inl s ↦ (let same = s.0 in let nothing = s.1 in elim h.goes [
            | inl zero ↦ inl (omega arith)
            | inr less ↦ inr (elim h.high [ inl x ↦ omega arith | inr x ↦ omega arith ])
          ])
          | inr s ↦ inr (omega arith)
        ];
        has_room = inl (omega arith);
      }
  goes_on false h w step none e m =
      let fits = h.fits in
      let counted = h.counted in
      let nothing = none refl in
      let low = h.low in
      record {
        fits = omega arith;
        counted = elim step [ inl s ↦ (let same = s.0 in omega arith) | inr s ↦ omega arith ];
        low = omega arith;
        high = elim h.high [
          | inl x ↦ inl (omega arith)
          | inr x ↦ inr (elim step [ inl s ↦ (let same = s.0 in omega arith) | inr s ↦ omega arith ])
        ];
        goes = elim h.goes [ inl x ↦ inl (omega arith) | inr x ↦ inr (omega arith) ];
        has_room = elim w [
          | inl x ↦ inl (elim step [ inl s ↦ (let same = s.0 in omega arith) | inr s ↦ omega arith ])
          | inr x ↦ inr (omega arith)
        ];
      }

  -- the paths before a number that have ended are in the window, so they were before
  stops : (goes_on : Bool) (stop : ℕ) → IsOn from room at count next length → IsWithin from room count length goes_on → Ends put count after
      → to ≡ next_after goes_on after next → min stop after ≤ to → min stop count ≤ next
  stops true stop h w step e less = let fits = w.1 in elim h.has_room [ inl x ↦ omega arith | inr x ↦ absurd (omega arith) ]
  stops false stop h w step e less = elim step [ inl s ↦ (let same = s.0 in omega arith) | inr s ↦ omega arith ]

-- a token is put
module _ (pairs : List PairAt) (ready : List (Option (List Token))) (x : Token) (depth : ℕ) (messages : List (List ℕ)) (tree : Option (List Token))
    (from room at count next length put after to more : ℕ) (goes : Bool) (on : IsOn from room at count next length) (within : IsWithin from room count length goes)
    (is_put : IsPutFor pairs ready x depth messages goes tree) (put_is : put ≡ length_put tree) (after_is : after ≡ ended x count) (to_is : to ≡ next_after goes after next) where
  step : Ends put count after
  step = subst (λ (z : ℕ). Ends put count z) (sym after_is) (subst (λ (z : ℕ). Ends z count (ended x count)) (sym put_is) (ends pairs ready x count depth messages goes tree is_put))

  pub walk_goes : more ≡ min (length + put) (2 ^ 64 - 1) → IsOn from room (at + 1) after to more
  walk_goes more_is = goes_on from room at count next length put after to more goes on within step (λ e. put_is ∙ outside pairs ready x depth messages goes tree is_put e) to_is more_is

  pub stops_before : (stop : ℕ) → min stop after ≤ to → min stop count ≤ next
  stops_before stop = stops from room at count next length put after to more goes stop on within step to_is

-- a token in the window gets its answer
module _ (pairs : List PairAt) (given : List (Option Node)) (from room at count next length after to stop depth : ℕ) (messages : List (List ℕ)) (tree : Option Node) where
  pub gets_answer : (x : Token) (goes_on : Bool) → IsOn from room at count next length → after ≡ ended x count → to ≡ next_after goes_on after next → min stop after ≤ to
      → MayBe (answer_at pairs given x depth messages) tree → (goes_on ≡ true → tree ≡ answer_at pairs given x depth messages)
      → IsBetween from stop count → tree ≡ answer_at pairs given x depth messages
  gets_answer token.Fork goes_on h a_is e less may put within = elim may [ inl none ↦ none | inr none ↦ none ]
  gets_answer (token.Op o) goes_on h a_is e less may put within = elim may [ inl none ↦ none | inr none ↦ none ]
  gets_answer (token.Attestation a) true h a_is e less may put within = put refl
  gets_answer (token.Attestation a) false h a_is e less may put within =
      let begun = within.0 in
      let low = within.1 in
      elim h.high [ inl x ↦ absurd (omega arith) | inr x ↦ absurd (omega arith) ]
