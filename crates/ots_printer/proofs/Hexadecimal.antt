-- The digits of bytes, piece after piece.
use Rattle.std.proofs.Common.{◌≡◌, ◌≤◌, ℕ, ◌-◌, List, [], ◌∷◌, ◌++◌, take, drop, refl, sym, ap, ◌∙◌, arith}
use Rattle.std.proofs.Math.Seq.{take-add}
use Rattle.hex.specs.Hex.{encode_lower, encode_with}

encode-append : (xs ys : List ℕ) → encode_lower (xs ++ ys) ≡ encode_lower xs ++ encode_lower ys
unfolding encode_with
encode-append [] ys = refl
encode-append (x ∷ xs) ys = ap (λ (z : List ℕ). encode_lower (x ∷ []) ++ z) (encode-append xs ys)

-- the digits up to an end, by those up to an earlier place
pub encode-take : (at end : ℕ) (bytes : List ℕ) → at ≤ end
    → encode_lower (take at bytes) ++ encode_lower (take (end - at) (drop at bytes)) ≡ encode_lower (take end bytes)
encode-take at end bytes le =
    sym (encode-append (take at bytes) (take (end - at) (drop at bytes)))
    ∙ ap encode_lower (sym (take-add at (end - at) bytes) ∙ ap (λ (z : ℕ). take z bytes) (omega (arith, le)))

-- no bytes have no digits
pub encode-nothing : [] ≡ encode_lower []
unfolding encode_with
encode-nothing = refl
