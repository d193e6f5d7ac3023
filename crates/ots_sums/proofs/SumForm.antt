-- The lines of sums are a form of lines.
use Rattle.std.proofs.Common.{◌≡◌, ◌==◌, ◌<◌, ℕ, Bool, true, false, List, [], ◌∷◌, ◌++◌, length, take, drop, get_or, Option, Some, None, ◌⊎◌, inl, inr, refl, sym, ap, subst, ◌∙◌, arith, lit≤, lit<, append_assoc, length-append}
use Rattle.std.specs.Prelude.{if◌then◌else◌}
use Rattle.std.proofs.lemmas.List.{take_at, drop_at}
use Rattle.hex.specs.Hex.{encode_lower}
use Rattle.ots_inputs.specs.Lines.{IsForm}
use Rattle.ots_inputs.proofs.Lining.{HasNo}
use Rattle.ots_sums.specs.declared.line.TheConstants.{MAX_LINE}
use Rattle.ots_sums.specs.declared.reading.TheConstants.{MAX_LINES}
use Rattle.ots_sums.specs.Names.{escape_of, escaped, mark_of, needs_escape, spelled}
use Rattle.ots_sums.specs.Sums.{Entry, IsSumLine}
use Rattle.ots_sums.specs.inner.Parts.{IsBody, IsText}
use Rattle.ots_sums.proofs.Digits.{length_digits, none_in_digits, same_digest}
use Rattle.ots_sums.proofs.Escapes.{escaped_once}

-- ---- a line and its text after the mark

abbrev marked : Bool → List ℕ → List ℕ
marked x text = (if x then 92 ∷ [] else []) ++ text

-- a text begins with digits
module _ (text digest name : List ℕ) (b : IsBody text digest name) where
  pub digits : take 64 text ≡ encode_lower digest
  digits = ap (take 64) b.split ∙ take_at (encode_lower digest) b.rest 64 (length_digits digest b.is_digest)

  pub after : drop 64 text ≡ b.rest
  after = ap (drop 64) b.split ∙ drop_at (encode_lower digest) b.rest 64 (length_digits digest b.is_digest)

  pub no_backslash : (more : List ℕ) → text ≡ 92 ∷ more → ⊥
  no_backslash more is = by (encode_lower digest) (none_in_digits 92 digest refl b.is_digest) (length_digits digest b.is_digest) (sym b.split ∙ is)
    where
      by : (first : List ℕ) → HasNo 92 first → length first ≡ 64 → first ++ b.rest ≡ 92 ∷ more → ⊥
      by [] none long same = absurd (omega (arith, long))
      by (d ∷ first) none long same = none.0 (ap (λ (z : List ℕ). get_or z 0 0) same)

-- A text has one digest and one name after it.
pub one_body : (text first second name other : List ℕ) → IsBody text first name → IsBody text second other → (first ≡ second) × (name ≡ other)
one_body text first second name other f s = (
  same_digest first second f.is_digest s.is_digest (sym (digits text first name f) ∙ digits text second other s),
  ap (λ (z : List ℕ). drop 2 z) (sym f.is_rest.split ∙ sym (after text first name f) ∙ after text second other s ∙ s.is_rest.split),
)

-- what a line is after its mark
module _ (line : List ℕ) (e : Entry) where
  text_of : (is : IsSumLine line e) → (text : List ℕ) × (line ≡ marked (needs_escape e.name) text) × IsText text (needs_escape e.name) e
  text_of is = (
    encode_lower e.digest ++ 32 ∷ is.kind ∷ escaped e.name,
    is.text ∙ append_assoc (mark_of e.name) (encode_lower e.digest) (32 ∷ is.kind ∷ escaped e.name),
    record {
      rest = escaped e.name;
      body = record {
        rest = 32 ∷ is.kind ∷ escaped e.name;
        is_rest = record { kind = is.kind; text_or_binary = is.text_or_binary; split = refl };
        split = refl;
        is_digest = (is.long, is.bytes);
      };
      name = record { spelling = refl; marked = refl; is_name = is.name };
    },
  )

  pub as_line : (text : List ℕ) (x : Bool) → line ≡ marked x text → length line < MAX_LINE → IsText text x e → IsSumLine line e
  as_line text x is short t =
      let split : text ≡ encode_lower e.digest ++ 32 ∷ t.body.is_rest.kind ∷ escaped e.name =
      t.body.split ∙ ap (λ (z : List ℕ). encode_lower e.digest ++ z) (t.body.is_rest.split ∙ ap (λ (z : List ℕ). 32 ∷ t.body.is_rest.kind ∷ z) t.name.spelling) in
      record {
        kind = t.body.is_rest.kind;
        text_or_binary = t.body.is_rest.text_or_binary;
        text = is ∙ ap (λ (z : Bool). marked z text) (sym t.name.marked) ∙ ap (λ (z : List ℕ). mark_of e.name ++ z) split
            ∙ sym (append_assoc (mark_of e.name) (encode_lower e.digest) (32 ∷ t.body.is_rest.kind ∷ escaped e.name));
        short = short;
        long = t.body.is_digest.0;
        bytes = t.body.is_digest.1;
        name = t.name.is_name;
      }

  -- a line with a mark, and one without
  pub marked_text : (more : List ℕ) → line ≡ 92 ∷ more → IsSumLine line e → IsText more true e
  marked_text more is s = let t = text_of s in by (needs_escape e.name) t.0 t.1 t.2
    where
      by : (x : Bool) (text : List ℕ) → line ≡ marked x text → IsText text x e → IsText more true e
      by true text same t = subst (λ (z : List ℕ). IsText z true e) (ap (λ (z : List ℕ). drop 1 z) (sym same ∙ is)) t
      by false text same t = absurd (no_backslash text e.digest t.rest t.body more (sym same ∙ is))

  pub plain_text : ((more : List ℕ) → line ≡ 92 ∷ more → ⊥) → IsSumLine line e → IsText line false e
  plain_text other s = let t = text_of s in by (needs_escape e.name) t.0 t.1 t.2
    where
      by : (x : Bool) (text : List ℕ) → line ≡ marked x text → IsText text x e → IsText line false e
      by true text same t = absurd (other text same)
      by false text same t = subst (λ (z : List ℕ). IsText z false e) (sym same) t

-- ---- one entry

one_text : (text : List ℕ) (x : Bool) (first second : Entry) → IsText text x first → IsText text x second → first ≡ second
one_text text x first second f s =
    let bodies = one_body text first.digest second.digest f.rest s.rest f.body s.body in
    let named = escaped_once first.name second.name (sym f.name.spelling ∙ bodies.1 ∙ s.name.spelling) in
    λ i. record { digest = bodies.0 i; name = named i }

one_entry : (line : List ℕ) (first second : Entry) → IsSumLine line first → IsSumLine line second → first ≡ second
one_entry line first second f s = let t = text_of line first f in by (needs_escape first.name) t.0 t.1 t.2
  where
    by : (x : Bool) (text : List ℕ) → line ≡ marked x text → IsText text x first → first ≡ second
    by true text same t = one_text text true first second t (marked_text line second text same s)
    by false text same t =
        one_text line false first second (subst (λ (z : List ℕ). IsText z false first) (sym same) t)
        (plain_text line second (λ more is. no_backslash text first.digest t.rest t.body more (sym same ∙ is)) s)

-- ---- no line feed

none_in_both : (first second : List ℕ) → HasNo 10 first → HasNo 10 second → HasNo 10 (first ++ second)
none_in_both [] second none nil = nil
none_in_both (b ∷ first) second none nil = (none.0, none_in_both first second none.1 nil)

none_in_mark : (x : Bool) → HasNo 10 (if x then 92 ∷ [] else [])
none_in_mark true = ((λ same. absurd (omega (arith, same))), tt)
none_in_mark false = tt

no_feed_mark : (byte mark : ℕ) → escape_of byte ≡ Some mark → mark ≡ 10 → ⊥
no_feed_mark byte mark is feed = by (byte == 92) (byte == 10) (byte == 13) is
  where
    by : (x y z : Bool) → (if x then Some 92 else if y then Some 110 else if z then Some 114 else None) ≡ Some mark → ⊥
    by true y z is = let same : 92 ≡ mark = cc in absurd (omega (arith, same, feed))
    by false true z is = let same : 110 ≡ mark = cc in absurd (omega (arith, same, feed))
    by false false true is = let same : 114 ≡ mark = cc in absurd (omega (arith, same, feed))
    by false false false is = absurd cc

none_in_spelled : (byte : ℕ) (o : Option ℕ) → escape_of byte ≡ o → HasNo 10 (spelled byte o)
none_in_spelled byte None is = ((λ same. let clash : Some 110 ≡ None = sym (ap escape_of same) ∙ is in absurd cc), tt)
none_in_spelled byte (Some mark) is = ((λ same. absurd (omega (arith, same))), (no_feed_mark byte mark is, tt))

none_in_escaped : (name : List ℕ) → HasNo 10 (escaped name)
none_in_escaped [] = tt
none_in_escaped (b ∷ name) = none_in_both (spelled b (escape_of b)) (escaped name) (none_in_spelled b (escape_of b) refl) (none_in_escaped name)

none_in_kind : (kind : ℕ) → (kind ≡ 32) ⊎ (kind ≡ 42) → kind ≡ 10 → ⊥
none_in_kind kind (inl is) same = absurd (omega (arith, is, same))
none_in_kind kind (inr is) same = absurd (omega (arith, is, same))

no_end : (line : List ℕ) (e : Entry) → IsSumLine line e → HasNo 10 line
no_end line e is =
    subst (HasNo 10) (sym is.text) (none_in_both (mark_of e.name ++ encode_lower e.digest) (32 ∷ is.kind ∷ escaped e.name)
    (none_in_both (mark_of e.name) (encode_lower e.digest) (none_in_mark (needs_escape e.name)) (none_in_digits 10 e.digest refl (is.long, is.bytes)))
    ((λ same. absurd (omega (arith, same))), (none_in_kind is.kind is.text_or_binary, none_in_escaped e.name)))

pub sum_form : IsForm IsSumLine MAX_LINE MAX_LINES
sum_form = record {
  short = λ line e is. is.short;
  no_end = no_end;
  one = one_entry;
  some = lit≤ tt;
  fits = lit≤ tt;
  few = lit< tt;
}

pub too_short : (text digest name : List ℕ) → length text < 64 → IsBody text digest name → ⊥
too_short text digest name less b =
    absurd (omega (arith, less, ap length b.split, length-append (encode_lower digest) b.rest, length_digits digest b.is_digest))
