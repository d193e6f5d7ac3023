-- Names that are read, and names that are put.
use Rattle.std.proofs.Common.{◌≡◌, ◌≢◌, ◌==◌, ◌||◌, ◌<◌, ◌≤◌, ◌+◌, ℕ, Bool, true, false, true≢false, List, [], ◌∷◌, ◌++◌, length, take, drop, get_or, refl, sym, ap, subst, ◌∙◌, arith, append_assoc, append-nil, eqb-true, eq-eqb}
use Rattle.std.specs.Prelude.{if◌then◌else◌}
use Rattle.std.specs.List.{AllByRecursion, list_any}
use Rattle.std.proofs.Math.Seq.{take-add}
use Rattle.std.proofs.lemmas.List.{append_cancel_right, take-append-drop, take_all, take_more}
use Rattle.ots_sums.specs.Names.{escape_of, escaped, mark_of, needs_escape, spelled}
use Rattle.ots_sums.specs.inner.Parts.{Spells, SpellsName, Starts, Unescaped}
use Rattle.ots_sums.proofs.Escapes.{cancel, escaped-append, escaped_once, longer, plain}

abbrev NoNul : List ℕ → Type 0
NoNul name = AllByRecursion (λ b. b ≢ 0) name

-- ---- names that are put

-- one byte more after the mark
pub put_more : (name start now new : List ℕ) (i : ℕ) → now ≡ start ++ (92 ∷ escaped (take i name)) → i < length name → new ≡ now ++ spelled (get_or name i 0) (escape_of (get_or name i 0))
    → new ≡ start ++ (92 ∷ escaped (take (i + 1) name))
put_more name start now new i before less put =
    let b = get_or name i 0 in
    let one : escaped (take (i + 1) name) ≡ escaped (take i name) ++ spelled b (escape_of b) =
    ap escaped (take_more name i 0 less) ∙ escaped-append (take i name) (b ∷ []) ∙ ap (λ (z : List ℕ). escaped (take i name) ++ z) (append-nil (spelled b (escape_of b))) in
    put ∙ ap (λ (z : List ℕ). z ++ spelled b (escape_of b)) before ∙ append_assoc start (92 ∷ escaped (take i name)) (spelled b (escape_of b))
    ∙ ap (λ (z : List ℕ). start ++ (92 ∷ z)) (sym one)

-- a name without escapes
pub shown_plain : (name : List ℕ) → needs_escape name ≡ false → name ≡ mark_of name ++ escaped name
shown_plain name is = sym (ap (λ (z : Bool). (if z then 92 ∷ [] else []) ++ escaped name) is ∙ plain name is)

-- a name with escapes
pub shown_marked : (name : List ℕ) → needs_escape name ≡ true → 92 ∷ escaped name ≡ mark_of name ++ escaped name
shown_marked name is = sym (ap (λ (z : Bool). (if z then 92 ∷ [] else []) ++ escaped name) is)

-- ---- a text without escapes

no_nul : (text : List ℕ) → list_any (λ b. b == 0) text ≡ false → NoNul text
no_nul [] none = tt
no_nul (b ∷ text) none = by (b == 0) refl none (λ later. no_nul text later)
  where
    by : (x : Bool) → (b == 0) ≡ x → (x || list_any (λ b. b == 0) text) ≡ false → (list_any (λ b. b == 0) text ≡ false → NoNul text) → NoNul (b ∷ text)
    by true e none later = absurd (true≢false none)
    by false e none later = ((λ same. true≢false (sym (eq-eqb b 0 same) ∙ e)), later none)

has_nul : (text : List ℕ) → list_any (λ b. b == 0) text ≡ true → NoNul text → ⊥
has_nul [] some none = true≢false (sym some)
has_nul (b ∷ text) some none = by (b == 0) refl some (λ later. has_nul text later none.1)
  where
    by : (x : Bool) → (b == 0) ≡ x → (x || list_any (λ b. b == 0) text) ≡ true → (list_any (λ b. b == 0) text ≡ true → ⊥) → ⊥
    by true e some later = none.0 (eqb-true b 0 e)
    by false e some later = later some

pub plain_name : (text : List ℕ) → 0 < length text → list_any (λ b. b == 0) text ≡ false → needs_escape text ≡ false → SpellsName text false text
plain_name text some none is = record { spelling = sym (plain text is); marked = is; is_name = record { some = some; no_nul = no_nul text none } }

the_text : (text name : List ℕ) → SpellsName text false name → name ≡ text
the_text text name s = sym (s.spelling ∙ plain name s.marked)

pub not_empty : (text name : List ℕ) → text ≡ [] → SpellsName text false name → ⊥
not_empty text name none s = let some = s.is_name.some in absurd (omega (arith, some, ap length (the_text text name s ∙ none)))

pub not_nul : (text name : List ℕ) → list_any (λ b. b == 0) text ≡ true → SpellsName text false name → ⊥
not_nul text name some s = has_nul text some (subst NoNul (the_text text name s) s.is_name.no_nul)

pub not_escaped : (text name : List ℕ) → needs_escape text ≡ true → SpellsName text false name → ⊥
not_escaped text name some s = true≢false (sym some ∙ sym (ap needs_escape (the_text text name s)) ∙ s.marked)

-- ---- a text with escapes

no_nul_append : (first second : List ℕ) → NoNul first → NoNul second → NoNul (first ++ second)
no_nul_append [] second none more = more
no_nul_append (b ∷ first) second none more = (none.0, no_nul_append first second none.1 more)

no_nul_after : (first second : List ℕ) → NoNul (first ++ second) → NoNul second
no_nul_after [] second none = none
no_nul_after (b ∷ first) second none = no_nul_after first second none.1

pub none_spelled : (text old : List ℕ) → Unescaped text old old 0
none_spelled text old = record { name = []; put = sym (append-nil old); spells = record { spelling = refl; no_nul = tt }; within = omega arith }

module _ (text old now : List ℕ) (at : ℕ) (u : Unescaped text old now at) where
  pub one_spelled : (new rest : List ℕ) (byte size : ℕ) → rest ≡ drop at text → Starts rest byte (drop size rest) → size ≤ length rest → at + size ≤ length text → new ≡ now ++ byte ∷ []
      → Unescaped text old new (at + size)
  one_spelled new rest byte size is starts fits within put =
      let piece : take size rest ≡ spelled byte (escape_of byte) = append_cancel_right (take size rest) (spelled byte (escape_of byte)) (drop size rest) (take-append-drop size rest ∙ starts.split) in
      record {
        name = u.name ++ byte ∷ [];
        put = put ∙ ap (λ (z : List ℕ). z ++ byte ∷ []) u.put ∙ append_assoc old u.name (byte ∷ []);
        spells = record {
          spelling = take-add at size text ∙ ap (λ (z : List ℕ). take at text ++ take size z) (sym is) ∙ ap (λ (z : List ℕ). take at text ++ z) piece
              ∙ ap (λ (z : List ℕ). z ++ spelled byte (escape_of byte)) u.spells.spelling ∙ ap (λ (z : List ℕ). escaped u.name ++ z) (sym (append-nil (spelled byte (escape_of byte))))
              ∙ sym (escaped-append u.name (byte ∷ []));
          no_nul = no_nul_append u.name (byte ∷ []) u.spells.no_nul (starts.no_nul, tt);
        };
        within = within;
      }

  -- what is left spells no byte
  pub no_more : (rest : List ℕ) → rest ≡ drop at text → 0 < length rest → ((byte : ℕ) (more : List ℕ) → Starts rest byte more → ⊥) → (name : List ℕ) → Spells text name → ⊥
  no_more rest is some none name s =
      let parts = cancel u.name rest name (ap (λ (z : List ℕ). z ++ rest) (sym u.spells.spelling) ∙ ap (λ (z : List ℕ). take at text ++ z) is ∙ take-append-drop at text ∙ s.spelling) in
      by parts.0 parts.2 (no_nul_after u.name parts.0 (subst NoNul parts.1 s.no_nul))
    where
      by : (more : List ℕ) → rest ≡ escaped more → NoNul more → ⊥
      by [] nothing nul = absurd (omega (arith, some, ap length nothing))
      by (b ∷ more) spelling nul = none b (escaped more) (record { split = spelling; no_nul = nul.0 })

  pub all_spelled : length text ≤ at → Spells text u.name
  all_spelled whole = record { spelling = sym (take_all at text whole) ∙ u.spells.spelling; no_nul = u.spells.no_nul }

-- A name with an escape is shorter than its spelling, and only such a name.
pub is_marked : (text name : List ℕ) → Spells text name → length name < length text → SpellsName text true name
is_marked text name s less = record {
  spelling = s.spelling;
  marked = by (needs_escape name) refl;
  is_name = record { some = some name s.spelling less; no_nul = s.no_nul };
}
  where
    by : (x : Bool) → needs_escape name ≡ x → needs_escape name ≡ true
    by true e = e
    by false e = absurd (omega (arith, less, ap length (s.spelling ∙ plain name e)))

    some : (n : List ℕ) → text ≡ escaped n → length n < length text → 0 < length n
    some [] is shorter = absurd (omega (arith, shorter, ap length is))
    some (b ∷ n) is shorter = omega arith

pub none_marked : (text name other : List ℕ) → Spells text name → length text ≤ length name → SpellsName text true other → ⊥
none_marked text name other s more o =
    let same : name ≡ other = escaped_once name other (sym s.spelling ∙ o.spelling) in
    absurd (let less = longer other o.marked in omega (arith, more, less, ap length same, ap length o.spelling))

pub as_spells : (text name : List ℕ) → SpellsName text true name → Spells text name
as_spells text name s = record { spelling = s.spelling; no_nul = s.is_name.no_nul }
