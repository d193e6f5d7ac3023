-- What stands in one of several pieces stands in all of them joined.
use Rattle.std.proofs.Common.{◌≡◌, ℕ, zero, suc, ◌+◌, ◌<◌, Bool, false, List, [], ◌∷◌, ◌++◌, length, get_or, take, Option, Some, None, refl, sym, ap, subst, ◌∙◌, append_assoc, append-nil, add-one, length-append, inl, inr, arith}
use Rattle.std.specs.Prelude.{is_some}
use Rattle.std.specs.List.{concat}
use Rattle.std.proofs.lemmas.List.{get_or-append-add, get_or_append_left}
use Rattle.memchr.specs.Find.{OccursAt, FindsNeedle}
use Rattle.ots_block.specs.Block.{Contents, stripped_forms}
use Rattle.ots_anchor.specs.Find.{form_of, root_of}
use Rattle.ots_anchor.specs.Standing.{AreStanding, IsStanding}
use Rattle.ots_anchor.proofs.Marks.{nowhere}
use Rattle.std.proofs.Math.Seq.{get_or-append_seam}
use Rattle.std.proofs.lemmas.List.{get_or-take, length-map, length-take-le}
use Rattle.std.proofs.lemmas.Bool.{cases_lt}

stands_after : (before bytes needle : List ℕ) (p : ℕ) → OccursAt bytes needle p → OccursAt (before ++ bytes) needle (length before + p)
stands_after before bytes needle p h = record {
  fits = let fits = h.fits in let all = length-append before bytes in omega (arith, fits, all);
  reads = λ j inside. ap (λ (k : ℕ). get_or (before ++ bytes) k 0) (omega arith) ∙ get_or-append-add before bytes (p + j) 0 ∙ h.reads j inside;
}

stands_before : (bytes after needle : List ℕ) (p : ℕ) → OccursAt bytes needle p → OccursAt (bytes ++ after) needle p
stands_before bytes after needle p h = record {
  fits = let fits = h.fits in let all = length-append bytes after in omega (arith, fits, all);
  reads = λ j inside. get_or_append_left bytes after 0 (p + j) (let fits = h.fits in omega arith) ∙ h.reads j inside;
}

stands_in_all : (pieces : List (List ℕ)) (t : ℕ) (needle : List ℕ) (p : ℕ) → t < length pieces → OccursAt (get_or pieces t []) needle p
    → (q : ℕ) × OccursAt (concat pieces) needle q
stands_in_all [] t needle p inside h = absurd (omega arith)
stands_in_all (x ∷ pieces) zero needle p inside h = (p, stands_before x (concat pieces) needle p h)
stands_in_all (x ∷ pieces) (suc t) needle p inside h =
    let rest = stands_in_all pieces t needle p (omega arith) h in (length x + rest.0, stands_after x (concat pieces) needle rest.0 rest.1)

forms_length : (c : Contents) → length (stripped_forms c) ≡ length c.transactions
forms_length c = length-map c.transactions _

pub all_stand : (c : Contents) (roots : List (List ℕ)) (standing : List Bool) → IsStanding (concat (stripped_forms c)) roots standing → AreStanding c roots standing
all_stand c roots standing h = record {
  count = h.count;
  nowhere = λ i inside no t less p occurs.
      let there = stands_in_all (stripped_forms c) t (root_of roots i) p (let same = forms_length c in omega (arith, same)) occurs in h.nowhere i inside no there.0 there.1;
}

pub in_one : (c : Contents) (roots : List (List ℕ)) (standing : List Bool) (t : ℕ) (form : List ℕ) → t < length c.transactions → form ≡ form_of c t
    → AreStanding c roots standing → IsStanding form roots standing
in_one c roots standing t form less is h = record {
  count = h.count;
  nowhere = λ i inside no p occurs. h.nowhere i inside no t less p (subst (λ (z : List ℕ). OccursAt z (root_of roots i) p) is occurs);
}

-- one piece more
concat_suc : (pieces : List (List ℕ)) (t : ℕ) → t < length pieces → concat (take t pieces) ++ get_or pieces t [] ≡ concat (take (suc t) pieces)
concat_suc [] t inside = absurd (omega arith)
concat_suc (x ∷ pieces) zero inside = sym (append-nil x)
concat_suc (x ∷ pieces) (suc t) inside =
    append_assoc x (concat (take t pieces)) (get_or pieces t []) ∙ ap (λ (z : List ℕ). x ++ z) (concat_suc pieces t (omega arith))

pub one_form : (c : Contents) (t : ℕ) → t < length c.transactions → concat (take t (stripped_forms c)) ++ form_of c t ≡ concat (take (t + 1) (stripped_forms c))
one_form c t inside = rw add-one (concat_suc (stripped_forms c) t (let same = forms_length c in omega (arith, same)))

-- one root more was looked for
none_place : (place : Option ℕ) → is_some place ≡ false → place ≡ None
none_place None absent = refl
none_place (Some k) absent = cc

last_of : (xs : List Bool) (x : Bool) (k : ℕ) → length xs ≡ k → get_or (xs ++ x ∷ []) k false ≡ x
last_of xs x k is = subst (λ (n : ℕ). get_or (xs ++ x ∷ []) n false ≡ x) is (get_or-append_seam xs x [] false)

pub one_standing : (bytes : List ℕ) (roots : List (List ℕ)) (standing : List Bool) (k : ℕ) (place : Option ℕ) → k < length roots
    → FindsNeedle bytes (root_of roots k) 0 place → IsStanding bytes (take k roots) standing
    → IsStanding bytes (take (k + 1) roots) (standing ++ is_some place ∷ [])
one_standing bytes roots standing k place inside finds h =
    let before : length (take k roots) ≡ k = length-take-le k roots (omega arith) in
    let after : length (take (k + 1) roots) ≡ k + 1 = length-take-le (k + 1) roots (omega arith) in
    let count = h.count in
    let more = length-append standing (is_some place ∷ []) in record {
      count = omega (arith, before, after, count, more);
      nowhere = λ i less no p occurs. elim (cases_lt i k) [
        | inl lt ↦ h.nowhere i (omega (arith, before)) (sym (get_or_append_left standing (is_some place ∷ []) false i (omega (arith, before, count))) ∙ no) p
            (subst (λ (r : List ℕ). OccursAt bytes r p) (get_or-take (k + 1) roots i [] (omega arith) ∙ sym (get_or-take k roots i [] lt)) occurs)
        | inr ge ↦
            let same : i ≡ k = omega (arith, after) in
            let here : get_or (standing ++ is_some place ∷ []) k false ≡ is_some place = last_of standing (is_some place) k (omega (arith, before, count)) in
            let none : place ≡ None =
            none_place place (sym here ∙ ap (λ (n : ℕ). get_or (standing ++ is_some place ∷ []) n false) (sym same) ∙ no) in
            nowhere bytes (root_of roots k) (subst (λ (o : Option ℕ). FindsNeedle bytes (root_of roots k) 0 o) none finds) p
            (subst (λ (r : List ℕ). OccursAt bytes r p) (get_or-take (k + 1) roots i [] (omega arith) ∙ ap (λ (n : ℕ). get_or roots n []) same) occurs)
      ];
    }
