-- Names and their escapes.
use Rattle.std.proofs.Common.{◌≡◌, ◌==◌, ◌||◌, ◌<◌, ◌≤◌, ℕ, Bool, true, false, true≢false, List, [], ◌∷◌, ◌++◌, length, drop, get_or, Option, Some, None, refl, sym, ap, ◌∙◌, arith, append_assoc, append-nil, length-append, eqb-true}
use Rattle.std.specs.Prelude.{is_some, if◌then◌else◌}
use Rattle.ots_sums.specs.Names.{escape_of, escaped, mark_of, needs_escape, spelled}

-- ---- one byte

-- the byte that is escaped by another
meant : ℕ → ℕ
meant mark = if mark == 92 then 92 else if mark == 110 then 10 else 13

meant_is : (byte mark : ℕ) → escape_of byte ≡ Some mark → meant mark ≡ byte
unfolding meant
meant_is byte mark is = by (byte == 92) (byte == 10) (byte == 13) refl refl refl is
  where
    by : (x y z : Bool) → (byte == 92) ≡ x → (byte == 10) ≡ y → (byte == 13) ≡ z → (if x then Some 92 else if y then Some 110 else if z then Some 114 else None) ≡ Some mark → meant mark ≡ byte
    by true y z first second third is = let same : 92 ≡ mark = cc in ap meant (sym same) ∙ sym (eqb-true byte 92 first)
    by false true z first second third is = let same : 110 ≡ mark = cc in ap meant (sym same) ∙ sym (eqb-true byte 10 second)
    by false false true first second third is = let same : 114 ≡ mark = cc in ap meant (sym same) ∙ sym (eqb-true byte 13 third)
    by false false false first second third is = absurd cc

one_escape : (first second mark : ℕ) → escape_of first ≡ Some mark → escape_of second ≡ Some mark → first ≡ second
one_escape first second mark f s = sym (meant_is first mark f) ∙ meant_is second mark s

no_backslash : (byte : ℕ) → escape_of byte ≡ None → byte ≡ 92 → ⊥
no_backslash byte none is = let clash : Some 92 ≡ None = sym (ap escape_of is) ∙ none in absurd cc

-- A text spells one byte at its start.
pub same_first : (first second : ℕ) (rest more : List ℕ) → spelled first (escape_of first) ++ rest ≡ spelled second (escape_of second) ++ more → (first ≡ second) × (rest ≡ more)
same_first first second rest more same = by (escape_of first) (escape_of second) refl refl same
  where
    by : (o p : Option ℕ) → escape_of first ≡ o → escape_of second ≡ p → spelled first o ++ rest ≡ spelled second p ++ more → (first ≡ second) × (rest ≡ more)
    by None None f s same = (ap (λ (z : List ℕ). get_or z 0 0) same, ap (λ (z : List ℕ). drop 1 z) same)
    by None (Some b) f s same = absurd (no_backslash first f (ap (λ (z : List ℕ). get_or z 0 0) same))
    by (Some a) None f s same = absurd (no_backslash second s (sym (ap (λ (z : List ℕ). get_or z 0 0) same)))
    by (Some a) (Some b) f s same =
        let marks : a ≡ b = ap (λ (z : List ℕ). get_or z 1 0) same in
        (one_escape first second b (f ∙ ap (λ (z : ℕ). Some z) marks) s, ap (λ (z : List ℕ). drop 2 z) same)

length_spelled : (byte : ℕ) (o : Option ℕ) → 1 ≤ length (spelled byte o)
length_spelled byte None = omega arith
length_spelled byte (Some mark) = omega arith

-- ---- a name

pub escaped-append : (first second : List ℕ) → escaped (first ++ second) ≡ escaped first ++ escaped second
escaped-append [] second = refl
escaped-append (b ∷ first) second =
    ap (λ (z : List ℕ). spelled b (escape_of b) ++ z) (escaped-append first second) ∙ sym (append_assoc (spelled b (escape_of b)) (escaped first) (escaped second))

-- What begins with a name's spelling and spells a name has the spelling of the rest of that name after it.
pub cancel : (done rest name : List ℕ) → escaped done ++ rest ≡ escaped name → (more : List ℕ) × (name ≡ done ++ more) × (rest ≡ escaped more)
cancel [] rest name same = (name, refl, same)
cancel (b ∷ done) rest [] same =
    absurd (omega (arith, ap length same, length_spelled b (escape_of b), length-append (spelled b (escape_of b) ++ escaped done) rest, length-append (spelled b (escape_of b)) (escaped done)))
cancel (b ∷ done) rest (c ∷ name) same =
    let parts = same_first b c (escaped done ++ rest) (escaped name) (sym (append_assoc (spelled b (escape_of b)) (escaped done) rest) ∙ same) in
    let more = cancel done rest name parts.1 in
    (more.0, ap (λ (z : ℕ). z ∷ name) (sym parts.0) ∙ ap (λ (z : List ℕ). b ∷ z) more.1, more.2)

nothing_spelled : (name : List ℕ) → [] ≡ escaped name → name ≡ []
nothing_spelled [] is = refl
nothing_spelled (b ∷ name) is = absurd (omega (arith, ap length is, length_spelled b (escape_of b), length-append (spelled b (escape_of b)) (escaped name)))

pub escaped_once : (first second : List ℕ) → escaped first ≡ escaped second → first ≡ second
escaped_once first second same =
    let parts = cancel first [] second (append-nil (escaped first) ∙ same) in
    sym (parts.1 ∙ ap (λ (z : List ℕ). first ++ z) (nothing_spelled parts.0 parts.2) ∙ append-nil first)

-- ---- whether it has escapes

neither : (x y : Bool) → (x || y) ≡ false → (x ≡ false) × (y ≡ false)
neither true y is = absurd (true≢false is)
neither false y is = (refl, is)

spelled_plain : (byte : ℕ) (o : Option ℕ) → is_some o ≡ false → spelled byte o ≡ byte ∷ []
spelled_plain byte None is = refl
spelled_plain byte (Some mark) is = absurd (true≢false is)

pub plain : (name : List ℕ) → needs_escape name ≡ false → escaped name ≡ name
plain [] is = refl
plain (b ∷ name) is =
    let parts = neither (is_some (escape_of b)) (needs_escape name) is in
    ap (λ (z : List ℕ). z ++ escaped name) (spelled_plain b (escape_of b) parts.0) ∙ ap (λ (z : List ℕ). b ∷ z) (plain name parts.1)

pub no_longer : (name : List ℕ) → length name ≤ length (escaped name)
no_longer [] = omega arith
no_longer (b ∷ name) = omega (arith, no_longer name, length_spelled b (escape_of b), length-append (spelled b (escape_of b)) (escaped name))

pub longer : (name : List ℕ) → needs_escape name ≡ true → length name < length (escaped name)
longer [] is = absurd (true≢false (sym is))
longer (b ∷ name) is = by (escape_of b) is (λ more. longer name more)
  where
    by : (o : Option ℕ) → (is_some o || needs_escape name) ≡ true → (needs_escape name ≡ true → length name < length (escaped name)) → length (b ∷ name) < length (spelled b o ++ escaped name)
    by None is later = let less = later is in omega (arith, less)
    by (Some mark) is later = let less = no_longer name in omega (arith, less)

-- A name without escapes does not begin with a backslash.
pub no_mark : (name rest : List ℕ) → needs_escape name ≡ false → name ≡ 92 ∷ rest → ⊥
no_mark name rest plain is = true≢false (sym (ap needs_escape is) ∙ plain)

pub shown_once : (first second : List ℕ) → mark_of first ++ escaped first ≡ mark_of second ++ escaped second → first ≡ second
shown_once first second same = by (needs_escape first) (needs_escape second) refl refl same
  where
    by : (x y : Bool) → needs_escape first ≡ x → needs_escape second ≡ y → (if x then 92 ∷ [] else []) ++ escaped first ≡ (if y then 92 ∷ [] else []) ++ escaped second → first ≡ second
    by true true f s same = escaped_once first second (ap (λ (z : List ℕ). drop 1 z) same)
    by false false f s same = escaped_once first second same
    by true false f s same = absurd (no_mark second (escaped first) s (sym (same ∙ plain second s)))
    by false true f s same = absurd (no_mark first (escaped second) f (sym (plain first f) ∙ same))
