-- Steps for the items of a list, one after the other.
use Rattle.std.proofs.Common.{◌≡◌, ◌<◌, ◌+◌, ℕ, zero, suc, List, [], ◌∷◌, ◌++◌, length, take, drop, get_or, Bor, map, refl, sym, ap, subst, ◌∙◌, add-one, arith}
use Rattle.std.specs.Prelude.{Ok, Err}
use Rattle.std.specs.List.{range_with_len}
use Rattle.std.proofs.Math.Seq.{take-suc}
use Rattle.std.proofs.lemmas.List.{drop_more, take-append-drop}
use Rattle.ots_archive_world.specs.Steps.{Each, Step}
use Rattle.ots_archive_world.specs.Told.{Told}
use Rattle.ots_archive_world.proofs.Steps.{each_more, each_stops}

-- the first items, and the next
first_more : {W : Type 0} (xs : List W) (i : ℕ) (d : W) → i < length xs → take i xs ++ get_or xs i d ∷ [] ≡ take (i + 1) xs
first_more {W} xs i d less = sym (ap (λ (z : ℕ). take z xs) (add-one i) ∙ take-suc xs i d less)

-- all items: the first ones, the next, and those after it
apart : {W : Type 0} (xs : List W) (i : ℕ) (d : W) → i < length xs → take i xs ++ get_or xs i d ∷ drop (i + 1) xs ≡ xs
apart {W} xs i d less = ap (λ (z : List W). take i xs ++ z) (sym (drop_more xs i d less)) ∙ take-append-drop i xs

module _ {W A E : Type 0} (step : W → Step A E) (xs : List W) (i : ℕ) (d : W) (less : i < length xs) (old mid new : Told) (given : List A)
    (done : Each step (take i xs) old mid (Ok given)) where
  -- the step of the next item is done
  pub each_next : (a : A) → step (get_or xs i d) mid new (Ok a) → Each step (take (i + 1) xs) old new (Ok (given ++ a ∷ []))
  each_next a next =
      subst (λ (z : List W). Each step z old new (Ok (given ++ a ∷ []))) (first_more xs i d less)
      (each_more step (take i xs) (get_or xs i d) old mid new given a done next)

  -- the run ends with it
  pub each_ends : (e : E) → step (get_or xs i d) mid new (Err e) → Each step xs old new (Err e)
  each_ends e ended =
      subst (λ (z : List W). Each {A = A} step z old new (Err e)) (apart xs i d less)
      (each_stops step (take i xs) (get_or xs i d) (drop (i + 1) xs) old mid new given e done ended)

-- the text at a place
pub text_at : (names : List (Bor (List ℕ))) (i : ℕ) (d : Bor (List ℕ)) → i < length names → get_or (map (λ s. s.now) names) i d.now ≡ (get_or names i d).now
text_at [] i d less = refl
text_at (n ∷ names) zero d less = refl
text_at (n ∷ names) (suc i) d less = text_at names i d (omega (arith, less))

-- the number at a place
pub number_at : (from n i d : ℕ) → i < n → get_or (range_with_len from n) i d ≡ from + i
number_at from zero i d less = absurd (omega (arith, less))
number_at from (suc n) zero d less = omega arith
number_at from (suc n) (suc i) d less = number_at (from + 1) n i d (omega (arith, less)) ∙ omega arith

-- Steps that were done give one item for each.
pub each_long : {W A E : Type 0} (step : W → Step A E) (ws : List W) (old new : Told) (given : List A) → Each step ws old new (Ok given) → length given ≡ length ws
each_long step [] old new [] done = refl
each_long step [] old new (a ∷ given) done = absurd done
each_long step (w ∷ ws) old new [] done = absurd done
each_long step (w ∷ ws) old new (a ∷ given) (mid, first, done) = ap suc (each_long step ws mid new given done)
