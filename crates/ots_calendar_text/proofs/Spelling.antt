-- The digits of tokens, one after another.
use Rattle.std.proofs.Common.{◌≡◌, ◌<◌, ℕ, ◌+◌, List, [], ◌∷◌, ◌++◌, length, take, get_or, refl, sym, ap, ◌∙◌, append_assoc, append-nil}
use Rattle.std.proofs.lemmas.List.{take_more, take_at}
use Rattle.std.proofs.lemmas.List.Concat.{flat_map-append}
use Rattle.hex.specs.Hex.{encode_lower, encode_with}
use Rattle.ots_tree.specs.declared.token.Token.{Token}
use Rattle.ots_tree.specs.Wire.{spell, spelled}

encode-append : (xs ys : List ℕ) → encode_lower (xs ++ ys) ≡ encode_lower xs ++ encode_lower ys
unfolding encode_with
encode-append [] ys = refl
encode-append (x ∷ xs) ys = ap (λ (z : List ℕ). encode_lower (x ∷ []) ++ z) (encode-append xs ys)

pub encode-nothing : [] ≡ encode_lower []
unfolding encode_with
encode-nothing = refl

-- one token more
pub next_token : (tokens : List Token) (i : ℕ) (x : Token) (bytes : List ℕ) → i < length tokens → x ≡ get_or tokens i x → bytes ≡ spell x
    → encode_lower (spelled (take i tokens)) ++ encode_lower bytes ≡ encode_lower (spelled (take (i + 1) tokens))
next_token tokens i x bytes less is spells =
    ap (λ (z : List ℕ). encode_lower (spelled (take i tokens)) ++ encode_lower z) (spells ∙ ap spell is ∙ sym (append-nil (spell (get_or tokens i x))))
    ∙ (sym (encode-append (spelled (take i tokens)) (spelled (get_or tokens i x ∷ [])))
    ∙ ap encode_lower (sym (flat_map-append spell (take i tokens) (get_or tokens i x ∷ [])) ∙ sym (ap spelled (take_more tokens i x less))))

-- the prefix of a chunk that was written
pub prefix_of_chunk : (s made after rest : List ℕ) (n : ℕ) → made ≡ s ++ after → n ≡ length s → take n (made ++ rest) ≡ s
prefix_of_chunk s made after rest n is long =
    ap (λ (z : List ℕ). take n (z ++ rest)) is ∙ (ap (take n) (append_assoc s after rest) ∙ take_at s (after ++ rest) n (sym long))
