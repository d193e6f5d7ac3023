-- What is there in a list from which items are gone.
use Rattle.std.proofs.Common.{◌≡◌, ℕ, zero, suc, ◌+◌, ◌<◌, Bool, true, false, not, List, [], ◌∷◌, ◌++◌, length, set, refl, sym, ap, subst, ◌∙◌, arith, length-append}
use Rattle.std.specs.List.{filter}
use Rattle.std.specs.Prelude.{Some, slice_get, if◌then◌else◌}
use Rattle.ots_tickets.specs.declared.slots.Slot.{Slot}
use Rattle.ots_tickets.specs.Search.{IsPlace}
use Rattle.ots_tickets.specs.Slots.{present, IsHere}
use Rattle.ots_tickets.specs.Tickets.{NoneIs, OneIs, TakesOne}

-- an item that is gone
abbrev pub gone : {A : Type 0} → A → Slot A
gone x = record { item = x; is_gone = true }

joined : {A : Type 0} (b : Bool) (x : A) (all xs ys : List A) → all ≡ xs ++ ys → (if b then all else x ∷ all) ≡ (if b then xs else x ∷ xs) ++ ys
joined true x all xs ys e = e
joined false x all xs ys e = ap (λ (l : List _). x ∷ l) e

pub present_append : {A : Type 0} (xs ys : List (Slot A)) → present (xs ++ ys) ≡ present xs ++ present ys
present_append [] ys = refl
present_append (x ∷ xs) ys = joined x.is_gone x.item (present (xs ++ ys)) (present xs) (present ys) (present_append xs ys)

kept : {A : Type 0} (b : Bool) (x : Slot A) (rest xs : List (Slot A)) → x.is_gone ≡ b → present rest ≡ present xs → present (if not b then x ∷ rest else rest) ≡ (if b then present xs else x.item ∷ present xs)
kept true x rest xs is e = e
kept false x rest xs is e = rw is (ap (λ (l : List _). x.item ∷ l) e)

-- those that are gone can be left out
pub present_filter : {A : Type 0} (xs : List (Slot A)) → present (filter (λ slot. not slot.is_gone) xs) ≡ present xs
present_filter [] = refl
present_filter (x ∷ xs) = kept x.is_gone x (filter (λ slot. not slot.is_gone) xs) xs refl (present_filter xs)

none_one : {A : Type 0} (P : A → Type 0) (b : Bool) (x : Slot A) (xs : List A) → x.is_gone ≡ b → (IsHere P x → ⊥) → NoneIs P xs → NoneIs P (if b then xs else x.item ∷ xs)
none_one P true x xs is not_here rest = rest
none_one P false x xs is not_here rest = (λ p. not_here (record { here = is; is = p }), rest)

pub none_present : {A : Type 0} (P : A → Type 0) (xs : List (Slot A)) → NoneIs (IsHere P) xs → NoneIs P (present xs)
none_present P [] none = tt
none_present P (x ∷ xs) none = none_one P x.is_gone x (present xs) refl none.0 (none_present P xs none.1)

-- the slot at a place
pub there : {A : Type 0} (xs : List A) (i : ℕ) → i < length xs → (s : A) × (slice_get xs i ≡ Some s)
there [] i less = absurd (omega arith)
there (x ∷ xs) zero less = (x, refl)
there (x ∷ xs) (suc i) less = there xs i (omega arith)

takes_more : {A : Type 0} (P : A → Type 0) (b : Bool) (x one : A) (old new : List A) → TakesOne P one old new → TakesOne P one (if b then old else x ∷ old) (if b then new else x ∷ new)
takes_more P true x one old new t = t
takes_more P false x one old new t = record {
  before = x ∷ t.before;
  after = t.after;
  whole = ap (λ (l : List _). x ∷ l) t.whole;
  rest = ap (λ (l : List _). x ∷ l) t.rest;
  is = t.is;
}

-- an item that is there, and then gone
pub takes_gone : {A : Type 0} (P : A → Type 0) (xs : List (Slot A)) (i : ℕ) (x : A) (s : Slot A) → slice_get xs i ≡ Some s → IsHere P s → TakesOne P s.item (present xs) (present (set xs i (gone x)))
takes_gone P [] i x s at here = absurd (cc)
takes_gone P (y ∷ xs) zero x s at here =
    let same : y ≡ s = cc in
    record {
      before = [];
      after = present xs;
      whole = rw same (rw here.here refl);
      rest = refl;
      is = here.is;
    }
takes_gone P (y ∷ xs) (suc i) x s at here = takes_more P y.is_gone y.item s.item (present xs) (present (set xs i (gone x))) (takes_gone P xs i x s at here)

pub one_here : {A : Type 0} (P : A → Type 0) (xs : List (Slot A)) (i : ℕ) → IsPlace (IsHere P) xs i → OneIs P (present xs)
one_here P xs i place =
    let s = there xs i place.inside in
    let t = takes_gone P xs i s.0.item s.0 s.1 (place.is s.0 s.1) in
    record { before = t.before; one = s.0.item; after = t.after; whole = t.whole; is = t.is }

-- one less is there
pub one_less : {A : Type 0} (P : A → Type 0) (one : A) (old new : List A) → TakesOne P one old new → length old ≡ length new + 1
one_less P one old new t = omega (arith, ap length t.whole, ap length t.rest, length-append t.before (one ∷ t.after), length-append t.before t.after)
