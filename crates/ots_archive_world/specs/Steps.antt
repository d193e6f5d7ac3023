-- Steps of a run, one after another: what each does to the outside, and whether the run goes on.
use Rattle.std.specs.Prelude.{◌≡◌, ◌⊎◌, List, [], ◌∷◌, Result, Ok, Err}
use Rattle.ots_archive_world.specs.Told.{Told}

-- Between two moments it gives something, or the run ends with this.
abbrev pub Step : Type 0 → Type 0 → Type 1
Step A E = Told → Told → Result A E → Type 0

-- It gives this, and does nothing.
abbrev pub Gives : {A E : Type 0} → A → Step A E
Gives a old new r = (new ≡ old) × (r ≡ Ok a)

-- The run ends with this, and nothing is done.
abbrev pub Stops : {A E : Type 0} → E → Step A E
Stops e old new r = (new ≡ old) × (r ≡ Err e)

-- One step, and then one that rests on what the first gives; or the run ends with the first.
abbrev pub Then : {A B E : Type 0} → Step A E → (A → Step B E) → Step B E
Then {A} {B} {E} first next old new r = ((a : A) × (mid : Told) × first old mid (Ok a) × next a mid new r)
    ⊎ ((e : E) × first old new (Err e) × (r ≡ Err e))

-- A step for each of these, in order, and what each gives; or the run ends with one of them.
abbrev pub Each : {W A E : Type 0} → (W → Step A E) → List W → Step (List A) E
Each step [] old new (Ok []) = new ≡ old
Each step [] old new (Ok (a ∷ given)) = ⊥
Each step [] old new (Err e) = ⊥
Each step (w ∷ ws) old new (Ok []) = ⊥
Each step (w ∷ ws) old new (Ok (a ∷ given)) = (mid : Told) × step w old mid (Ok a) × Each step ws mid new (Ok given)
Each {W} {A} step (w ∷ ws) old new (Err e) = step w old new (Err e)
    ⊎ ((a : A) × (mid : Told) × step w old mid (Ok a) × Each step ws mid new (Err e))
