-- What stands before a blank.
use Rattle.std.proofs.Common.{◌≡◌, ◌≢◌, ◌<◌, ◌-◌, ◌+◌, ℕ, suc, List, [], ◌∷◌, ◌++◌, length, take, drop, get_or, refl, sym, ap, subst, ◌∙◌, arith, length-drop, length-take, eqb-true, eq-eqb}
use Rattle.std.proofs.lemmas.List.{get_or-take, take-append-drop, drop_more, take_all}
use Rattle.memchr.specs.Find.{NoneBefore, Nowhere, Passes, is_byte}
use Rattle.ots_sheet.specs.Request.{blank}
use Rattle.ots_sheet.proofs.Words.{HasNo, same_until}
use Rattle.ots_replies.specs.inner.Words.{Cuts, HasWords}

none_by_places : (bytes : List ℕ) → ((k : ℕ) → k < length bytes → get_or bytes k 0 ≢ 32) → HasNo 32 bytes
none_by_places [] none = tt
none_by_places (b ∷ bytes) none = (none 0 (omega arith), none_by_places bytes (λ k less. none (suc k) (omega (arith, less))))

has_blank : (word rest : List ℕ) → HasNo 32 (word ++ blank ∷ rest) → ⊥
has_blank [] rest none = none.0 refl
has_blank (b ∷ word) rest none = has_blank word rest none.1

pub not_cut : (text word rest : List ℕ) → Nowhere (Passes (is_byte 32) text) 0 (length text) → Cuts text word rest → ⊥
not_cut text word rest none cut =
    has_blank word rest (subst (HasNo 32) cut.whole (none_by_places text (λ k less same. none k (omega arith) less (eq-eqb (get_or text k 0) 32 same))))

pub cuts : (text : List ℕ) (end : ℕ) → NoneBefore (Passes (is_byte 32) text) 0 (length text) end → Passes (is_byte 32) text end
    → Cuts text (take end text) (take (length text - (end + 1)) (drop (end + 1) text))
cuts text end none passes =
    let high = none.high in record {
      whole = sym (take-append-drop end text) ∙ ap (λ (z : List ℕ). take end text ++ z)
          (drop_more text end 0 high ∙ (λ i. eqb-true (get_or text end 0) 32 passes i ∷ sym (take_all (length text - (end + 1)) (drop (end + 1) text) (omega (arith, length-drop (end + 1) text))) i));
      no_blank = none_by_places (take end text) (λ k less same.
          let low : k < end = omega (arith, less, length-take end text) in
          none.before k (omega arith) low (eq-eqb (get_or text k 0) 32 (sym (get_or-take end text k 0 low) ∙ same)));
    }

pub one_cut : (text word rest other more : List ℕ) → Cuts text word rest → Cuts text other more → (word ≡ other) × (rest ≡ more)
one_cut text word rest other more f g = same_until 32 word other rest more f.no_blank g.no_blank (sym f.whole ∙ g.whole)

-- ---- a cut that can't go on

module _ (line kind url message code body : List ℕ) (w : HasWords line kind url message code body) where
  pub no_second : (first rest : List ℕ) → Cuts line first rest → ((word more : List ℕ) → Cuts rest word more → ⊥) → ⊥
  no_second first rest cut none =
      let same = one_cut line first rest kind w.after_kind cut w.first in
      none url w.after_url (subst (λ (z : List ℕ). Cuts z url w.after_url) (sym same.1) w.second)

  pub no_third : (first rest second after : List ℕ) → Cuts line first rest → Cuts rest second after → ((word more : List ℕ) → Cuts after word more → ⊥) → ⊥
  no_third first rest second after cut next none =
      let same = one_cut line first rest kind w.after_kind cut w.first in
      let then = one_cut rest second after url w.after_url next (subst (λ (z : List ℕ). Cuts z url w.after_url) (sym same.1) w.second) in
      none message w.after_message (subst (λ (z : List ℕ). Cuts z message w.after_message) (sym then.1) w.third)

  pub no_fourth : (first rest second after third last : List ℕ) → Cuts line first rest → Cuts rest second after → Cuts after third last
      → ((word more : List ℕ) → Cuts last word more → ⊥) → ⊥
  no_fourth first rest second after third last cut next cut_3 none =
      let same = one_cut line first rest kind w.after_kind cut w.first in
      let then = one_cut rest second after url w.after_url next (subst (λ (z : List ℕ). Cuts z url w.after_url) (sym same.1) w.second) in
      let thus = one_cut after third last message w.after_message cut_3 (subst (λ (z : List ℕ). Cuts z message w.after_message) (sym then.1) w.third) in
      none code body (subst (λ (z : List ℕ). Cuts z code body) (sym thus.1) w.fourth)
