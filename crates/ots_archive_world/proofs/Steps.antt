-- Steps, one after another.
use Rattle.std.proofs.Common.{◌≡◌, List, [], ◌∷◌, ◌++◌, refl, sym, subst, inl, inr}
use Rattle.std.specs.Prelude.{Result, Ok, Err}
use Rattle.ots_archive_world.specs.Told.{Told}
use Rattle.ots_archive_world.specs.Steps.{Each, Step}

module _ {W A E : Type 0} (step : W → Step A E) where
  -- one more was done after these
  pub each_more : (ws : List W) (w : W) (old mid new : Told) (given : List A) (a : A) → Each step ws old mid (Ok given)
      → step w mid new (Ok a) → Each step (ws ++ w ∷ []) old new (Ok (given ++ a ∷ []))
  each_more [] w old mid new [] a same then = (new, subst (λ (m : Told). step w m new (Ok a)) same then, refl)
  each_more [] w old mid new (b ∷ given) a done then = absurd done
  each_more (v ∷ ws) w old mid new [] a done then = absurd done
  each_more (v ∷ ws) w old mid new (b ∷ given) a (next, first, done) then = (next, first, each_more ws w next mid new given a done then)

  -- the run ended with the next one
  pub each_stops : (ws : List W) (w : W) (later : List W) (old mid new : Told) (given : List A) (e : E) → Each step ws old mid (Ok given)
      → step w mid new (Err e) → Each step (ws ++ w ∷ later) old new (Err e)
  each_stops [] w later old mid new [] e same then = inl (subst (λ (m : Told). step w m new (Err e)) same then)
  each_stops [] w later old mid new (b ∷ given) e done then = absurd done
  each_stops (v ∷ ws) w later old mid new [] e done then = absurd done
  each_stops (v ∷ ws) w later old mid new (b ∷ given) e (next, first, done) then =
      inr (b, next, first, each_stops ws w later next mid new given e done then)
