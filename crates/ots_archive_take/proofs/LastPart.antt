-- What follows the last slash of a name.
use Rattle.std.proofs.Common.{◌≡◌, ◌<◌, ◌≤◌, ◌+◌, ℕ, zero, suc, Bool, true, false, List, [], ◌∷◌, length, drop, get_or, cond, refl, sym, ap, ◌∙◌, add-one, arith}
use Rattle.std.specs.Prelude.{◌==◌}
use Rattle.ots_archive_take.specs.Names.{after_last, last_of, slash}

after_none : (found bytes : List ℕ) → ((k : ℕ) → k < length bytes → (get_or bytes k 0 == slash) ≡ true → ⊥) → after_last found bytes ≡ found
after_none found [] clear = refl
after_none found (b ∷ bytes) clear =
    elim (b == slash) as (λ (t : Bool). (b == slash) ≡ t → cond t (after_last bytes bytes) (after_last found bytes) ≡ found) [
      | true ↦ λ e. absurd (clear 0 (omega arith) e)
      | false ↦ λ e. after_none found bytes (λ k less at. clear (suc k) (omega (arith, less)) at)
    ] refl

after_some : (found bytes : List ℕ) (i : ℕ) → i < length bytes → (get_or bytes i 0 == slash) ≡ true
    → ((k : ℕ) → i < k → k < length bytes → (get_or bytes k 0 == slash) ≡ true → ⊥) → after_last found bytes ≡ drop (suc i) bytes
after_some found [] i less at clear = absurd (omega (arith, less))
after_some found (b ∷ bytes) zero less at clear =
    ap (λ (t : Bool). cond t (after_last bytes bytes) (after_last found bytes)) at ∙ after_none bytes bytes (λ k within there. clear (suc k) (omega arith) (omega (arith, within)) there)
after_some found (b ∷ bytes) (suc i) less at clear =
    let rest : (other : List ℕ) → after_last other bytes ≡ drop (suc i) bytes =
    λ other. after_some other bytes i (omega (arith, less)) at (λ k more within there. clear (suc k) (omega (arith, more)) (omega (arith, within)) there) in
    elim (b == slash) as (λ (t : Bool). cond t (after_last bytes bytes) (after_last found bytes) ≡ drop (suc i) bytes) [ true ↦ rest bytes | false ↦ rest found ]

pub last_none : (name : List ℕ) → ((k : ℕ) → 0 ≤ k → k < length name → (get_or name k 0 == slash) ≡ true → ⊥) → name ≡ last_of name
last_none name clear = sym (after_none name name (λ k. clear k (omega arith)))

pub last_some : (name : List ℕ) (i : ℕ) → i < length name → (get_or name i 0 == slash) ≡ true
    → ((k : ℕ) → i + 1 ≤ k → k < length name → (get_or name k 0 == slash) ≡ true → ⊥) → drop (i + 1) name ≡ last_of name
last_some name i less at clear = ap (λ (n : ℕ). drop n name) (add-one i) ∙ sym (after_some name name i less at (λ k more. clear k (omega (arith, more))))
