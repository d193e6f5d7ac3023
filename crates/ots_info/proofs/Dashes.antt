-- What is empty prints as a dash.
use Rattle.std.proofs.Common.{◌≡◌, ℕ, List, [], ◌∷◌, length, true, false, refl, arith}
use Rattle.std.specs.Prelude.{◌==◌, codes}
use Rattle.std.proofs.lemmas.Bool.{eqb-true}
use Rattle.hex.specs.Hex.{encode_lower, encode_with}
use Rattle.ots_info.specs.Listing.{or_dash}

pub no_bytes : (bytes : List ℕ) → (length bytes == 0) ≡ true → or_dash (encode_lower bytes) ≡ codes "-"
unfolding encode_with
no_bytes [] is = refl
no_bytes (b ∷ bytes) is = let none = eqb-true (length (b ∷ bytes)) 0 is in absurd (omega (arith, none))

pub some_bytes : (bytes : List ℕ) → (length bytes == 0) ≡ false → or_dash (encode_lower bytes) ≡ encode_lower bytes
unfolding encode_with
some_bytes [] is = let clash : true ≡ false = is in absurd cc
some_bytes (b ∷ bytes) is = refl
