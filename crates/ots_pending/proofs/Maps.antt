-- Numbers that a map has at digests.
use Rattle.std.proofs.Common.{◌≡◌, ℕ, zero, suc, ◌<◌, inl, inr, Bool, true, false, cond, List, [], ◌∷◌, ◌++◌, length, Option, Some, None, refl, sym, ap, subst, ◌∙◌, arith}
use Rattle.std.specs.Prelude.{IsSome, IsTrue, ◌⊎◌, bytes_eq}
use Rattle.std.specs.List.{slice_get}
use Rattle.std.specs.BTreeMap.{is_at}
use Rattle.std.specs.Ordering.{nat_cmp}
use Rattle.std.specs.Cmp.Lexicographic.{slice_cmp}
use Rattle.std.proofs.lemmas.Slice.Eq.{bytes_eq-Decides}
use Rattle.sha2.specs.Sha256.{sha256}
use Rattle.ots_pending.specs.Distinct.{number_at, AreDistinct, IsIndexed, IsNotedIn, IsNumbered, IsPlaceOf}

-- what a map has after an insertion
abbrev Inserted : List (List ℕ × ℕ) → List ℕ → ℕ → List (List ℕ × ℕ) → Type 0
Inserted old digest n new = (k : List ℕ) → number_at new k ≡ cond (is_at (slice_cmp nat_cmp digest) k) (Some n) (number_at old k)

some_of : (b : Bool) (n : ℕ) (o x : Option ℕ) → x ≡ cond b (Some n) o → IsSome o → IsSome x
some_of true n o x e h = subst IsSome (sym e) refl
some_of false n o x e h = subst IsSome (sym e) h

pub noted : (old new : List (List ℕ × ℕ)) (digest : List ℕ) (n : ℕ) → Inserted old digest n new → number_at new digest ≡ Some n → IsNotedIn old digest new
noted old new digest n all at = record {
  there = subst IsSome (sym at) refl;
  stays = λ k h. some_of (is_at (slice_cmp nat_cmp digest) k) n (number_at old k) (number_at new k) (all k) h;
}

-- ---- a list with one more element

pub get_before : {X : Type 0} (xs : List X) (x y : X) (i : ℕ) → slice_get xs i ≡ Some y → slice_get (xs ++ x ∷ []) i ≡ Some y
get_before [] x y i h = absurd cc
get_before (z ∷ xs) x y zero h = h
get_before (z ∷ xs) x y (suc i) h = get_before xs x y i h

pub get_last : {X : Type 0} (xs : List X) (x : X) → slice_get (xs ++ x ∷ []) (length xs) ≡ Some x
get_last [] x = refl
get_last (z ∷ xs) x = get_last xs x

pub record Last {X : Type 0} (xs : List X) (x y : X) (i : ℕ) : Type 0 where
  pub place : i ≡ length xs
  pub is : y ≡ x

pub get_of_more : {X : Type 0} (xs : List X) (x y : X) (i : ℕ) → slice_get (xs ++ x ∷ []) i ≡ Some y → (slice_get xs i ≡ Some y) ⊎ Last xs x y i
get_of_more [] x y zero h = inr (record { place = refl; is = cc })
get_of_more [] x y (suc i) h = absurd cc
get_of_more (z ∷ xs) x y zero h = inl h
get_of_more (z ∷ xs) x y (suc i) h = elim (get_of_more xs x y i h) [ inl k ↦ inl k | inr k ↦ inr (record { place = ap suc k.place; is = k.is }) ]

pub in_range : {X : Type 0} (xs : List X) (x : X) (i : ℕ) → slice_get xs i ≡ Some x → i < length xs
in_range [] x i h = absurd cc
in_range (z ∷ xs) x zero h = omega arith
in_range (z ∷ xs) x (suc i) h = let less = in_range xs x i h in omega arith

-- ---- one message more

module _ (items : List (List ℕ)) (old new : List (List ℕ × ℕ)) (m : List ℕ) (is : IsIndexed items old) (none : IsPlaceOf items m None)
    (noted_so : IsNotedIn old (sha256 m) new) where
  still_distinct : AreDistinct (items ++ m ∷ [])
  still_distinct i j x h k = elim (get_of_more items m x i h) [
    | inl a ↦ elim (get_of_more items m x j k) [
      | inl b ↦ is.distinct i j x a b
      | inr b ↦ absurd (none i (subst (λ (z : List ℕ). slice_get items i ≡ Some z) b.is a))
    ]
    | inr a ↦ elim (get_of_more items m x j k) [
      | inl b ↦ absurd (none j (subst (λ (z : List ℕ). slice_get items j ≡ Some z) a.is b))
      | inr b ↦ a.place ∙ sym b.place
    ]
  ]

  still_each : (i : ℕ) (x : List ℕ) → slice_get (items ++ m ∷ []) i ≡ Some x → IsSome (number_at new (sha256 x))
  still_each i x h = elim (get_of_more items m x i h) [
    | inl a ↦ noted_so.stays (sha256 x) (is.each i x a)
    | inr a ↦ subst (λ (z : List ℕ). IsSome (number_at new (sha256 z))) (sym a.is) noted_so.there
  ]

  pub one_more : IsIndexed (items ++ m ∷ []) new
  one_more = record { distinct = still_distinct; each = still_each }

  pub next_number : IsNumbered items (items ++ m ∷ []) m (length items)
  next_number = record { place = get_last items m; grown = inr (refl, refl) }

pub no_more : (items : List (List ℕ)) (m : List ℕ) (n : ℕ) → IsPlaceOf items m (Some n) → IsNumbered items items m n
no_more items m n h = record { place = h; grown = inl (in_range items m n h, refl) }

not_some : (x : Option ℕ) → x ≡ None → IsSome x → ⊥
not_some None e h = absurd cc
not_some (Some n) e h = absurd cc

-- without a number at its digest it stands nowhere
pub nowhere : (items : List (List ℕ)) (by_digest : List (List ℕ × ℕ)) (m : List ℕ) → IsIndexed items by_digest → number_at by_digest (sha256 m) ≡ None → IsPlaceOf items m None
nowhere items by_digest m is none = λ i h. not_some (number_at by_digest (sha256 m)) none (is.each i m h)

pub same_at : (x : Option (List ℕ)) (item bytes : List ℕ) (b : Bool) → x ≡ Some item → b ≡ bytes_eq item bytes → (IsTrue b → x ≡ Some bytes) × (x ≡ Some bytes → IsTrue b)
same_at x item bytes b is same =
    let d = bytes_eq-Decides item bytes in
    ((λ h. is ∙ ap Some (d.0 (sym same ∙ h))), (λ h. same ∙ d.1 (let one : (let s : Option (List ℕ) = Some item in s) ≡ Some bytes = sym is ∙ h in cc)))
