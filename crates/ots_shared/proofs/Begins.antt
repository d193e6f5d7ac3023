-- Lists of records of which one begins the other, and where a list has an element.
use Rattle.std.proofs.Common.{◌≡◌, ℕ, zero, suc, ◌<◌, ◌≤◌, ◌⊎◌, inl, inr, List, [], ◌∷◌, ◌++◌, length, refl, sym, ap, ◌∙◌, arith, append_assoc, append-nil, length-append}
use mathlib.Core.Logic.{dite}
use mathlib.Core.Option.{some, some-injective, some-ne-none}
use native.Mathlib.Decide.{dec_le}
use lib.ListN.{get_elem?}
use Rattle.std.specs.Prelude.{Some, slice_get}
use Rattle.ots_store.proofs.Ordered.{commits_append}
use Rattle.ots_store.specs.Order.{commits_of}
use Rattle.ots_store.specs.Records.{Record}
use Rattle.ots_shared.specs.Records.{StartsWith, StandsAt}

pub starts_self : (xs : List Record) → StartsWith xs xs
starts_self xs = ([], sym (append-nil xs))

pub starts_none : (xs : List Record) → StartsWith xs []
starts_none xs = (xs, refl)

pub starts_trans : (xs ys zs : List Record) → StartsWith ys xs → StartsWith zs ys → StartsWith zs xs
starts_trans xs ys zs a b = (a.0 ++ b.0, b.1 ∙ (ap (λ (l : List Record). l ++ b.0) a.1 ∙ append_assoc xs a.0 b.0))

pub starts_length : (xs ys : List Record) → StartsWith ys xs → length xs ≤ length ys
starts_length xs ys a = let e = ap length a.1 ∙ length-append xs a.0 in omega arith

-- of two beginnings of one list the shorter begins the longer
comparable : (xs ys zs : List Record) → StartsWith zs xs → StartsWith zs ys → length xs ≤ length ys → StartsWith ys xs
comparable [] ys zs a b le = (ys, refl)
comparable (x ∷ xs) [] zs a b le = absurd (omega arith)
comparable (x ∷ xs) (y ∷ ys) [] a b le = absurd (let e = ap length a.1 in omega arith)
comparable (x ∷ xs) (y ∷ ys) (z ∷ zs) a b le =
    let heads : y ≡ x = cc in
    let rest = comparable xs ys zs (a.0, cc) (b.0, cc) (omega arith) in (rest.0, λ i. heads i ∷ rest.1 i)

-- the longer of two beginnings of one list
pub longer_of : (xs ys zs : List Record) → StartsWith zs xs → StartsWith zs ys
    → (l : List Record) × StartsWith zs l × StartsWith l xs × StartsWith l ys × ((l ≡ xs) ⊎ (l ≡ ys))
longer_of xs ys zs a b = dite (dec_le (length xs) (length ys))
    (λ le. (ys, b, comparable xs ys zs a b le, starts_self ys, inr refl))
    (λ gt. (xs, a, starts_self xs, comparable ys xs zs b a (omega arith), inl refl))

pub within : {A : Type 0} (xs : List A) (i : ℕ) (x : A) → get_elem? xs i ≡ some x → i < length xs
within [] i x at = absurd (some-ne-none x (sym at))
within (y ∷ ys) zero x at = omega arith
within (y ∷ ys) (suc i) x at = let rest = within ys i x at in omega arith

pub only : {A : Type 0} (x : A) (i : ℕ) (y : A) → get_elem? (x ∷ []) i ≡ some y → x ≡ y
only x zero y at = some-injective x y at
only x (suc i) y at = absurd (some-ne-none y (sym at))

get_more : {A : Type 0} (xs ys : List A) (i : ℕ) (x : A) → slice_get xs i ≡ Some x → slice_get (xs ++ ys) i ≡ Some x
get_more [] ys i x at = absurd cc
get_more (y ∷ xs) ys zero x at = at
get_more (y ∷ xs) ys (suc i) x at = get_more xs ys i x at

pub stands_on : (records seen : List Record) (index : ℕ) (commitment : List ℕ) → StartsWith records seen → StandsAt seen index commitment → StandsAt records index commitment
stands_on records seen index commitment begins at =
    ap (λ (l : List Record). slice_get (commits_of l) index) begins.1 ∙ (ap (λ (l : List (List ℕ)). slice_get l index) (commits_append seen begins.0) ∙ get_more (commits_of seen) (commits_of begins.0) index commitment at)
