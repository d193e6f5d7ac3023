-- Which names were opened, read after read.
use Rattle.std.proofs.Common.{◌≡◌, ◌≤◌, ℕ, List, [], ◌∷◌, ◌++◌, length, take, zero, suc, ◌+◌, Option, Some, None, option_map, refl, sym, ap, ◌∙◌, inl, inr, append-nil, append_assoc, arith}
use Rattle.std.proofs.Math.Seq.{take-append-add}
use Rattle.ots_base.specs.Cause.{Rose}
use Rattle.ots_outside.specs.Shelf.{NeverFalls, ShelfFaults, ShelfTold}
use Rattle.ots_inputs.specs.Kept.{KeepsShelf}
use Rattle.ots_inputs.specs.Opened.{IsOpenedOrNot, Opens, OpensPrefix, StopsAt, not_opened, opened_last}

abbrev Told : Type 0
Told = Option (List (List ℕ))

-- some names were opened, and then others
pub both : (names rest : List (List ℕ)) (old mid new : Told) → Opens names old mid → Opens rest mid new → Opens (names ++ rest) old new
both names rest None mid new first then = then ∙ ap (option_map (λ all. all ++ rest)) first
both names rest (Some all) mid new first then =
    then ∙ ap (option_map (λ z. z ++ rest)) first ∙ ap (λ (z : List (List ℕ)). Some z) (append_assoc all names rest)

pub none_opened : (old : Told) → Opens [] old old
none_opened None = refl
none_opened (Some all) = ap (λ (z : List (List ℕ)). Some z) (sym (append-nil all))

pub then_opened : (names rest : List (List ℕ)) (old mid new : Told) → Opens names old mid → OpensPrefix rest mid new → OpensPrefix (names ++ rest) old new
then_opened names rest old mid new first (n, then) =
    (length names + n, rw (take-append-add names rest n) (both names (take n rest) old mid new first then))

same_prefix : (n : ℕ) (names rest : List (List ℕ)) → (m : ℕ) × (take m (names ++ rest) ≡ take n names)
same_prefix zero names rest = (0, refl)
same_prefix (suc n) [] rest = (0, refl)
same_prefix (suc n) (name ∷ names) rest = let prefix = same_prefix n names rest in (suc prefix.0, ap (λ (z : List (List ℕ)). name ∷ z) prefix.1)

pub prefix_of_more : (names rest : List (List ℕ)) (old new : Told) → OpensPrefix names old new → OpensPrefix (names ++ rest) old new
prefix_of_more names rest old new (n, opened) = let prefix = same_prefix n names rest in (prefix.0, rw prefix.1 opened)

-- a refusal of the one name
pub one_refused : (name : List ℕ) (old new : Told) (before now : ShelfFaults) (fault : Type 0)
    → IsOpenedOrNot name old new before now fault → OpensPrefix (name ∷ []) old new
one_refused name old new before now fault (inl none) = (0, none.0)
one_refused name old new before now fault (inr one) = (1, one.0)

pub stops_at_one : (name : List ℕ) (old new : Told) (before now : ShelfFaults) (fault : Type 0)
    → IsOpenedOrNot name old new before now fault → fault → StopsAt (name ∷ []) old new before now name
stops_at_one name old new before now fault (inl none) is = not_opened [] [] refl none.0 (none.1 is)
stops_at_one name old new before now fault (inr one) is = opened_last [] [] refl one.0 (one.1 is)

-- a count that rose later rose
rose_later : (a b c : ℕ) → a ≤ b → Rose b c → Rose a c
rose_later a b c before rose = omega arith

-- reading stopped at a name after others
pub stops_later : (names rest : List (List ℕ)) (old mid new : Told) (a b c : ShelfFaults) (name : List ℕ) → Opens names old mid
    → NeverFalls a b → StopsAt rest mid new b c name → StopsAt (names ++ rest) old new a c name
stops_later names rest old mid new a b c name opened later (not_opened before after is then rose) =
    not_opened (names ++ before) after (ap (λ (z : List (List ℕ)). names ++ z) is ∙ sym (append_assoc names before (name ∷ after)))
    (both names before old mid new opened then) (rose_later a.opening b.opening c.opening later.opening rose)
stops_later names rest old mid new a b c name opened later (opened_last before after is then rose) =
    opened_last (names ++ before) after (ap (λ (z : List (List ℕ)). names ++ z) is ∙ sym (append_assoc names before (name ∷ after)))
    (rw (append_assoc names before (name ∷ [])) (both names (before ++ name ∷ []) old mid new opened then))
    (rose_later a.reading b.reading c.reading later.reading rose)

-- reading stopped at one of more names
pub stops_before : (names rest : List (List ℕ)) (old new : Told) (a b : ShelfFaults) (name : List ℕ) → StopsAt names old new a b name → StopsAt (names ++ rest) old new a b name
stops_before names rest old new a b name (not_opened before after is then rose) =
    not_opened before (after ++ rest) (ap (λ (z : List (List ℕ)). z ++ rest) is ∙ append_assoc before (name ∷ after) rest) then rose
stops_before names rest old new a b name (opened_last before after is then rose) =
    opened_last before (after ++ rest) (ap (λ (z : List (List ℕ)). z ++ rest) is ∙ append_assoc before (name ∷ after) rest) then rose

-- ---- what of the shelf stays

pub never_falls : (a b c : ShelfFaults) → NeverFalls a b → NeverFalls b c → NeverFalls a c
never_falls a b c p q = record {
  opening = omega (arith, p.opening, q.opening);
  reading = omega (arith, p.reading, q.reading);
  writing = omega (arith, p.writing, q.writing);
}

-- nothing was read
pub keeps_all : {enough : Type 0} {told : ShelfTold} {faults : ShelfFaults} → KeepsShelf enough told told faults faults
keeps_all = record {
  names = refl;
  slots = λ k. refl;
  short = λ is. refl;
  later = record { opening = omega arith; reading = omega arith; writing = omega arith };
  writing = refl;
}

-- one read after another
pub keeps_then : {first second both : Type 0} {old mid new : ShelfTold} {a b c : ShelfFaults} → (both → first) → (both → second)
    → KeepsShelf first old mid a b → KeepsShelf second mid new b c → KeepsShelf both old new a c
keeps_then {a = a} {b = b} {c = c} one two f t = record {
  names = t.names ∙ f.names;
  slots = λ k. t.slots k ∙ f.slots k;
  short = λ is. t.short (two is) ∙ f.short (one is);
  later = never_falls a b c f.later t.later;
  writing = t.writing ∙ f.writing;
}

-- memory was enough in fewer cases
pub keeps_where : {first second : Type 0} {old new : ShelfTold} {a b : ShelfFaults} → (second → first) → KeepsShelf first old new a b → KeepsShelf second old new a b
keeps_where f h = record {
  names = h.names;
  slots = h.slots;
  short = λ is. h.short (f is);
  later = h.later;
  writing = h.writing;
}
