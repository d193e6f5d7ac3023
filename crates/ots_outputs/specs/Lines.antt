-- Lines that are printed.
use Rattle.std.specs.Prelude.{ℕ, Bool, true, false, List, [], ◌∷◌, ◌++◌, codes}

-- words and LF
abbrev pub line : List ℕ → List ℕ
line words = words ++ 10 ∷ []

-- before the place of a piece that is no calendar address
abbrev pub address_words : Bool → List ℕ
address_words true = codes "https is not supported at "
address_words false = codes "bad address at "
