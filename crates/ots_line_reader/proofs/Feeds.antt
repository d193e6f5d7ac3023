-- Bytes up to a line feed.
use Rattle.std.proofs.Common.{◌≡◌, ◌≢◌, ◌<◌, ℕ, ◌+◌, suc, List, [], ◌∷◌, ◌++◌, length, take, drop, get_or, sym, ap, subst, ◌∙◌, arith, length-drop, length-take, eqb-true, eq-eqb}
use Rattle.std.proofs.lemmas.List.{get_or-take, take-append-drop, drop_more, drop-drop}
use Rattle.std.proofs.Math.Seq.{take-add}
use Rattle.memchr.specs.Find.{NoneBefore, Nowhere, Passes, is_byte}
use Rattle.ots_line_reader.specs.Lines.{NoFeed}

none_by_places : (bytes : List ℕ) → ((k : ℕ) → k < length bytes → get_or bytes k 0 ≢ 10) → NoFeed bytes
none_by_places [] none = tt
none_by_places (b ∷ bytes) none = (none 0 (omega arith), none_by_places bytes (λ k less. none (suc k) (omega arith)))

none_append : (first second : List ℕ) → NoFeed first → NoFeed second → NoFeed (first ++ second)
none_append [] second none more = more
none_append (b ∷ first) second none more = (none.0, none_append first second none.1 more)

nowhere_none : (bytes : List ℕ) → Nowhere (Passes (is_byte 10) bytes) 0 (length bytes) → NoFeed bytes
nowhere_none bytes none = none_by_places bytes (λ k less same. none k (omega arith) less (eq-eqb _ 10 same))

-- No line feed stands in the first n bytes, and none in the others.
pub none_of_all : (held : List ℕ) (n : ℕ) → NoFeed (take n held) → Nowhere (Passes (is_byte 10) (drop n held)) 0 (length (drop n held)) → NoFeed held
none_of_all held n none later = subst NoFeed (take-append-drop n held) (none_append (take n held) (drop n held) none (nowhere_none (drop n held) later))

module _ (held : List ℕ) (n count : ℕ) (none : NoFeed (take n held)) (later : NoneBefore (Passes (is_byte 10) (drop n held)) 0 (length (drop n held)) count) (is : Passes (is_byte 10) (drop n held) count) where
  pub none_before : NoFeed (take (n + count) held)
  none_before = subst NoFeed (sym (take-add n count held)) (none_append (take n held) (take count (drop n held)) none
      (none_by_places (take count (drop n held)) (λ k less same.
      let high = later.high in
      let low : k < count = omega (arith, less, length-take count (drop n held)) in
      later.before k (omega arith) low (eq-eqb _ 10 (sym (get_or-take count (drop n held) k 0 low) ∙ same)))))

  pub within : n + count < length held
  within = let high = later.high in omega (arith, length-drop n held)

  pub split : held ≡ take (n + count) held ++ 10 ∷ drop (n + count + 1) held
  split =
      sym (take-append-drop (n + count) held) ∙ ap (λ (z : List ℕ). take (n + count) held ++ z)
      (sym (drop-drop count n held) ∙ drop_more (drop n held) count 0 later.high ∙ ap (λ (z : ℕ). z ∷ drop (count + 1) (drop n held)) (eqb-true _ 10 is)
      ∙ ap (λ (z : List ℕ). 10 ∷ z) (drop-drop (count + 1) n held ∙ ap (λ (z : ℕ). drop z held) (omega arith)))
