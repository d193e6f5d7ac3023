-- Lemmas on slots that are kept as a list.
use Rattle.std.proofs.Common.{◌≡◌, ◌≢◌, ◌<◌, ◌≤◌, ◌+◌, ℕ, zero, suc, List, [], ◌∷◌, ◌++◌, length, take, get_or, set, refl, arith, rules, IsTrue}
use Rattle.ots_outside.specs.Dialer.{Connection, unconnected, is_connected}
use Rattle.ots_outside.specs.Shelf.{SlotUse, closed, is_reading, is_writing}
use Rattle.ots_real.specs.SlotTable.{slot_at}

pub slot_at-past : {A B : Type 0} (none : B) (view : A → B) (xs : List A) (k : ℕ) → length xs ≤ k → slot_at none view xs k ≡ none
slot_at-past none view [] k past = refl
slot_at-past none view (x ∷ xs) zero past = absurd (omega arith)
slot_at-past none view (x ∷ xs) (suc k) past = slot_at-past none view xs k (omega arith)

pub slot_at-push_same : {A B : Type 0} (none : B) (view : A → B) (xs : List A) (x : A) (k : ℕ) → k ≡ length xs → slot_at none view (xs ++ x ∷ []) k ≡ view x
slot_at-push_same none view [] x zero is = refl
slot_at-push_same none view [] x (suc k) is = absurd (omega arith)
slot_at-push_same none view (y ∷ xs) x zero is = absurd (omega arith)
slot_at-push_same none view (y ∷ xs) x (suc k) is = slot_at-push_same none view xs x k (omega arith)

pub slot_at-push_other : {A B : Type 0} (none : B) (view : A → B) (xs : List A) (x : A) (k : ℕ) → k ≢ length xs → slot_at none view (xs ++ x ∷ []) k ≡ slot_at none view xs k
slot_at-push_other none view [] x zero other = absurd (other refl)
slot_at-push_other none view [] x (suc k) other = refl
slot_at-push_other none view (y ∷ xs) x zero other = refl
slot_at-push_other none view (y ∷ xs) x (suc k) other = slot_at-push_other none view xs x k (λ e. other (omega arith))

pub slot_at-set_same : {A B : Type 0} (none : B) (view : A → B) (xs : List A) (i : ℕ) (x : A) → i < length xs → slot_at none view (set xs i x) i ≡ view x
slot_at-set_same none view [] i x in_range = absurd (omega arith)
slot_at-set_same none view (y ∷ xs) zero x in_range = refl
slot_at-set_same none view (y ∷ xs) (suc i) x in_range = slot_at-set_same none view xs i x (omega arith)

pub slot_at-set_other : {A B : Type 0} (none : B) (view : A → B) (xs : List A) (i : ℕ) (x : A) (k : ℕ) → k ≢ i → slot_at none view (set xs i x) k ≡ slot_at none view xs k
slot_at-set_other none view [] i x k other = refl
slot_at-set_other none view (y ∷ xs) zero x zero other = absurd (other refl)
slot_at-set_other none view (y ∷ xs) zero x (suc k) other = refl
slot_at-set_other none view (y ∷ xs) (suc i) x zero other = refl
slot_at-set_other none view (y ∷ xs) (suc i) x (suc k) other = slot_at-set_other none view xs i x k (λ e. other (omega arith))

pub slot_at-get : {A B : Type 0} (none : B) (view : A → B) (xs : List A) (i : ℕ) (d : A) → i < length xs → slot_at none view xs i ≡ view (get_or xs i d)
slot_at-get none view [] i d in_range = absurd (omega arith)
slot_at-get none view (x ∷ xs) zero d in_range = refl
slot_at-get none view (x ∷ xs) (suc i) d in_range = slot_at-get none view xs i d (omega arith)

pub slot_at-open : {A B : Type 0} (none : B) (view : A → B) (xs : List A) (i : ℕ) → slot_at none view xs i ≢ none → i < length xs
slot_at-open none view [] i is_open = absurd (is_open refl)
slot_at-open none view (x ∷ xs) zero is_open = omega arith
slot_at-open none view (x ∷ xs) (suc i) is_open = let below : i < length xs = slot_at-open none view xs i is_open in omega arith

-- An item of the same use is put in the place of one.
pub slot_at-set_alike : {A B : Type 0} (none : B) (view : A → B) (xs : List A) (i : ℕ) (x : A) (k : ℕ) → view x ≡ slot_at none view xs i → slot_at none view (set xs i x) k ≡ slot_at none view xs k
slot_at-set_alike none view [] i x k alike = refl
slot_at-set_alike none view (y ∷ xs) zero x zero alike = alike
slot_at-set_alike none view (y ∷ xs) zero x (suc k) alike = refl
slot_at-set_alike none view (y ∷ xs) (suc i) x zero alike = refl
slot_at-set_alike none view (y ∷ xs) (suc i) x (suc k) alike = slot_at-set_alike none view xs i x k alike

-- A slot that a test tells from a closed one is an item of the list.
pub slot_at-reading : {A : Type 0} (view : A → SlotUse) (xs : List A) (i : ℕ) → IsTrue (is_reading (slot_at closed view xs i)) → i < length xs
slot_at-reading view [] i is_open = search (rules, is_open)
slot_at-reading view (x ∷ xs) zero is_open = omega arith
slot_at-reading view (x ∷ xs) (suc i) is_open = let below : i < length xs = slot_at-reading view xs i is_open in omega arith

pub slot_at-writing : {A : Type 0} (view : A → SlotUse) (xs : List A) (i : ℕ) → IsTrue (is_writing (slot_at closed view xs i)) → i < length xs
slot_at-writing view [] i is_open = search (rules, is_open)
slot_at-writing view (x ∷ xs) zero is_open = omega arith
slot_at-writing view (x ∷ xs) (suc i) is_open = let below : i < length xs = slot_at-writing view xs i is_open in omega arith

pub slot_at-connected : {A : Type 0} (view : A → Connection) (xs : List A) (i : ℕ) → IsTrue (is_connected (slot_at unconnected view xs i)) → i < length xs
slot_at-connected view [] i is_open = search (rules, is_open)
slot_at-connected view (x ∷ xs) zero is_open = omega arith
slot_at-connected view (x ∷ xs) (suc i) is_open = let below : i < length xs = slot_at-connected view xs i is_open in omega arith

-- The last item was taken away.
pub slot_at-pop_same : {A B : Type 0} (none : B) (view : A → B) (xs : List A) (i : ℕ) → slot_at none view (take i xs) i ≡ none
slot_at-pop_same none view [] zero = refl
slot_at-pop_same none view [] (suc i) = refl
slot_at-pop_same none view (x ∷ xs) zero = refl
slot_at-pop_same none view (x ∷ xs) (suc i) = slot_at-pop_same none view xs i

pub slot_at-pop_other : {A B : Type 0} (none : B) (view : A → B) (xs : List A) (i k : ℕ) → i + 1 ≡ length xs → k ≢ i → slot_at none view (take i xs) k ≡ slot_at none view xs k
slot_at-pop_other none view [] i k last other = absurd (omega arith)
slot_at-pop_other none view (x ∷ []) zero zero last other = absurd (other refl)
slot_at-pop_other none view (x ∷ []) zero (suc k) last other = refl
slot_at-pop_other none view (x ∷ y ∷ xs) zero k last other = absurd (omega arith)
slot_at-pop_other none view (x ∷ xs) (suc i) zero last other = refl
slot_at-pop_other none view (x ∷ xs) (suc i) (suc k) last other = slot_at-pop_other none view xs i k (omega arith) (λ e. other (omega arith))

pub ruleset slots = (slot_at-past, slot_at-push_same, slot_at-push_other, slot_at-pop_same, slot_at-pop_other, slot_at-set_same, slot_at-set_other, slot_at-set_alike, slot_at-get, slot_at-open, slot_at-reading, slot_at-writing, slot_at-connected)
