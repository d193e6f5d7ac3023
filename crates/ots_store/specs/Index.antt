-- The least index of a commitment.
use Rattle.std.specs.Prelude.{ℕ, suc, if◌then◌else◌, List, [], ◌∷◌, Option, None, Some}
use Rattle.std.specs.Option.{option_map}
use Rattle.std.specs.Str.{bytes_eq}

-- The least index at which a commitment stands among these.
abbrev pub least : List ℕ → List (List ℕ) → Option ℕ
least commitment [] = None
least commitment (c ∷ commitments) = if bytes_eq c commitment then Some 0
    else option_map (λ i. suc i) (least commitment commitments)
