-- A file is one list of lines at most, and has one first bad line at most, and never both.
use Rattle.std.proofs.Common.{◌≡◌, ◌<◌, ◌≤◌, ℕ, suc, List, [], ◌∷◌, length, refl, sym, ap, subst, ◌∙◌, arith, length-append}
use Rattle.ots_inputs.specs.Lines.{AreLines, BeginsLine, BeginsLines, HasLine, IsBadLine, IsForm}
use Rattle.ots_inputs.proofs.Lining.{same_until}

module _ {A : Type 0} {is_item : List ℕ → A → Type 0} {longest limit : ℕ} (form : IsForm is_item longest limit) where
  one_line : (bytes : List ℕ) (first second : A) (after others : List ℕ) → BeginsLine is_item bytes first after → BeginsLine is_item bytes second others → (first ≡ second) × (after ≡ others)
  one_line bytes first second after others f g =
      let same = same_until 10 f.line g.line after others (form.no_end f.line first f.is) (form.no_end g.line second g.is) (sym f.whole ∙ g.whole) in
      (form.one g.line first second (subst (λ (z : List ℕ). is_item z first) same.0 f.is) g.is, same.1)

  -- as many lines from the start are the same lines, and leave the same
  same_lines : (bytes rest rest' : List ℕ) (xs ys : List A) → BeginsLines is_item bytes xs rest → BeginsLines is_item bytes ys rest' → length xs ≡ length ys → (xs ≡ ys) × (rest ≡ rest')
  same_lines bytes rest rest' [] [] f g sizes = (refl, sym f ∙ g)
  same_lines bytes rest rest' [] (y ∷ ys) f g sizes = absurd (omega (arith, sizes))
  same_lines bytes rest rest' (x ∷ xs) [] f g sizes = absurd (omega (arith, sizes))
  same_lines bytes rest rest' (x ∷ xs) (y ∷ ys) (after, line, lines) (others, line', lines') sizes =
      let one = one_line bytes x y after others line line' in
      let more = same_lines after rest rest' xs ys lines (subst (λ (z : List ℕ). BeginsLines is_item z ys rest') (sym one.1) lines') (omega (arith, sizes)) in
      (ap (λ (z : A). z ∷ xs) one.0 ∙ ap (λ (z : List A). y ∷ z) more.0, more.1)

  -- fewer lines from the start have a line after them
  line_after : (bytes rest rest' : List ℕ) (xs ys : List A) → BeginsLines is_item bytes xs rest → BeginsLines is_item bytes ys rest' → length xs < length ys → HasLine is_item rest
  line_after bytes rest rest' xs [] f g less = absurd (omega (arith, less))
  line_after bytes rest rest' [] (y ∷ ys) f (after, line, lines) less = subst (HasLine is_item) f (record { item = y; after = after; begins = line })
  line_after bytes rest rest' (x ∷ xs) (y ∷ ys) (after, line, lines) (others, line', lines') less =
      let one = one_line bytes x y after others line line' in
      line_after after rest rest' xs ys lines (subst (λ (z : List ℕ). BeginsLines is_item z ys rest') (sym one.1) lines') (omega (arith, less))

  none_in_nothing : HasLine is_item [] → ⊥
  none_in_nothing has =
      let whole = has.begins.whole in
      absurd (omega (arith, ap length whole, length-append has.begins.line (10 ∷ has.after)))

  pub lines_given_once : (bytes : List ℕ) (first second : List A) → AreLines is_item limit bytes first → AreLines is_item limit bytes second → first ≡ second
  lines_given_once bytes first second f g =
      let not_less : length first < length second → ⊥ = λ less. none_in_nothing (line_after bytes [] [] first second f.lines g.lines less) in
      let not_more : length second < length first → ⊥ = λ more. none_in_nothing (line_after bytes [] [] second first g.lines f.lines more) in
      (same_lines bytes [] [] first second f.lines g.lines (omega (arith, not_less, not_more))).0

  -- no line stands where the first bad one is
  bad_is_last : (bytes rest : List ℕ) (number : ℕ) (items : List A) (b : IsBadLine is_item limit bytes number) → BeginsLines is_item bytes items rest → length items ≤ limit → length b.items < length items → ⊥
  bad_is_last bytes rest number items b lines most less =
      b.none (omega (arith, most, less)) (line_after bytes b.rest rest b.items items b.lines lines less)

  pub one_bad_line : (bytes : List ℕ) (first second : ℕ) → IsBadLine is_item limit bytes first → IsBadLine is_item limit bytes second → first ≡ second
  one_bad_line bytes first second f g =
      let not_less : length f.items < length g.items → ⊥ = bad_is_last bytes g.rest first g.items f g.lines g.most in
      let not_more : length g.items < length f.items → ⊥ = bad_is_last bytes f.rest second f.items g f.lines f.most in
      let sizes : length f.items ≡ length g.items = omega (arith, not_less, not_more) in
      f.at ∙ ap suc sizes ∙ sym g.at

  pub lines_never_both : (bytes : List ℕ) (items : List A) (number : ℕ) → AreLines is_item limit bytes items → IsBadLine is_item limit bytes number → ⊥
  lines_never_both bytes items number is b =
      let not_less : length b.items < length items → ⊥ = bad_is_last bytes [] number items b is.lines is.most in
      let not_more : length items < length b.items → ⊥ = λ more. none_in_nothing (line_after bytes [] b.rest items b.items is.lines b.lines more) in
      let sizes : length b.items ≡ length items = omega (arith, not_less, not_more) in
      let nothing_left : b.rest ≡ [] = (same_lines bytes b.rest [] b.items items b.lines is.lines sizes).1 in
      absurd (let some = is.some in omega (arith, some, sizes, ap length (b.left nothing_left)))
