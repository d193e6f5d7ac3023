-- Names of files, of which none is empty.
use Rattle.std.proofs.Common.{◌≡◌, ◌<◌, ◌≤◌, ℕ, zero, suc, Bool, true, false, not, ◌&&◌, ◌||◌, List, [], ◌∷◌, length, get_or, None, Some, Bor, ◌+◌, refl, ap, sym, ◌∙◌, arith, ltb-true, inl, inr}
use Rattle.std.specs.Prelude.{Option, map, nat_lt, if◌then◌else◌}
use Rattle.std.specs.List.{list_all}
use Rattle.std.proofs.lemmas.List.{get_or_default, length-map}
use Rattle.std.proofs.lemmas.Bool.Decides.{leb_tells}
use Rattle.std.specs.Option.{option_and_then, option_map}
use Rattle.clap.proofs.WalkLemmas.{raw_values-rows}
use Rattle.clap.specs.Walk.{is_empty, rows_of}
use Rattle.clap.specs.Words.{matched_of, raw_values}
use Rattle.clap.specs.declared.parser.matches.Found.{Found}
use Rattle.ots_arguments.specs.Values.{names_in, some_names, texts}

abbrev Names : Type 0
Names = List (Bor (List ℕ))

-- the k-th of them is no empty word
abbrev pub is_named : Names → ℕ → Type 0
is_named names k = (d : Bor (List ℕ)) → is_empty (get_or names k d).now ≡ false

every : (names : Names) → ((k : ℕ) → k < length names → is_named names k) → list_all (λ name. not (is_empty name)) (texts names) ≡ true
every [] each = refl
every (n ∷ names) each = rw (each 0 (omega arith) n) (every names (λ k less. each (suc k) (omega arith)))

one_empty : (names : Names) (d : Bor (List ℕ)) (k : ℕ) → k < length names → is_empty (get_or names k d).now ≡ true → list_all (λ name. not (is_empty name)) (texts names) ≡ false
one_empty [] d k less empty = absurd (omega arith)
one_empty (n ∷ names) d zero less empty = rw empty refl
one_empty (n ∷ names) d (suc k) less empty = rw (one_empty names d k (omega arith) empty) (none (not (is_empty n.now)))
  where
    none : (b : Bool) → (b && false) ≡ false
    none true = refl
    none false = refl

-- one more of them
pub named_next : (names : Names) (i : ℕ) → i < length names → ((k : ℕ) → k < i → is_named names k) → (d : Bor (List ℕ)) → is_empty (get_or names i d).now ≡ false
    → (k : ℕ) → k < i + 1 → is_named names k
named_next names i less each d named k below e = elim (leb_tells i k) [
  | inl last ↦ let is : k ≡ i = omega (arith, last.1) in rw (is, get_or_default names i e d less) named
  | inr earlier ↦ each k earlier.1 e
]

pub all_named : (most : ℕ) (names : Names) (i : ℕ) → is_empty names ≡ false → length names ≤ most → length names ≤ i → ((k : ℕ) → k < i → is_named names k)
    → Some (texts names) ≡ some_names most (texts names)
all_named most names i some few_enough past each = chosen _ _ _ few (every names (λ k less. each k (omega arith)))
  where
    count : length (texts names) ≡ length names
    count = length-map names _

    not_many : (b : Bool) → nat_lt most (length names) ≡ b → b ≡ false
    not_many true is = absurd (omega (arith, few_enough, ltb-true _ _ is))
    not_many false is = refl

    few : (is_empty (texts names) || nat_lt most (length (texts names))) ≡ false
    few = rw (count, some) (not_many _ refl)

    chosen : (b c : Bool) (x : List (List ℕ)) → b ≡ false → c ≡ true → Some x ≡ (if b then None else (if c then Some x else None))
    chosen b c x first second = rw (first, second) refl

pub not_named : (most : ℕ) (names : Names) (d : Bor (List ℕ)) (k : ℕ) → k < length names → is_empty (get_or names k d).now ≡ true → None ≡ some_names most (texts names)
not_named most names d k less empty = chosen (is_empty (texts names) || nat_lt most (length (texts names))) _ (one_empty names d k less empty)
  where
    chosen : (b c : Bool) → c ≡ false → None ≡ (if b then None else (if c then Some (texts names) else None))
    chosen true c second = refl
    chosen false c second = rw second refl

-- the names that an argument gives, by what clap's matches hold
pub given : (most : ℕ) (f : Found) (id : List ℕ) (found : Option (Bor Names)) → option_map (λ s. map (λ v. v.now) s.now) found ≡ option_map raw_values (matched_of f id)
    → names_in (rows_of f) id most ≡ option_and_then (λ s. some_names most (texts s.now)) found
given most f id found is = ap (option_and_then (some_names most)) (sym (raw_values-rows f id) ∙ sym is) ∙ inside found
  where
    inside : (found : Option (Bor Names)) → option_and_then (some_names most) (option_map (λ s. map (λ v. v.now) s.now) found) ≡ option_and_then (λ s. some_names most (texts s.now)) found
    inside None = refl
    inside (Some s) = refl
