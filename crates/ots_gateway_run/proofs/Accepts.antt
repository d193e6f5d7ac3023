-- Laws of links that are accepted.
use Rattle.std.proofs.Common.{◌≡◌, ℕ, ◌+◌, List, [], ◌∷◌, ◌++◌, Option, Some, None, refl, sym, ap, ◌∙◌}
use Rattle.std.proofs.Common.{append_assoc, arith}
use Rattle.std.specs.Option.{option_map}
use Rattle.ots_outside.specs.Link.{LinkTold}
use Rattle.ots_gateway_run.specs.Accepted.{AreFresh, Comes, counted}

-- None came.
pub comes_none : {L : Type 0} → (a : Option (List L)) → Comes [] a a
comes_none None = refl
comes_none (Some left) = refl

-- Some came, and then some more.
pub comes_more : {L : Type 0} → (xs ys : List L) → (a b c : Option (List L)) → Comes xs a b → Comes ys b c
    → Comes (xs ++ ys) a c
comes_more xs ys a b None first more = cc
comes_more xs ys a b (Some left) first more =
    first ∙ ap (option_map (λ rest. xs ++ rest)) more ∙ ap Some (sym (append_assoc xs ys left))

-- A count rose twice.
pub counted_more : (count : ℕ) → (k j : ℕ) → counted (counted count k) j ≡ counted count (k + j)
counted_more count k j = omega arith

-- Each link of two lists is fresh.
pub fresh_more : {L : Type 0} → (told : L → Option LinkTold) → (faults : L → ℕ) → (xs ys : List L)
    → AreFresh told faults xs → AreFresh told faults ys → AreFresh told faults (xs ++ ys)
fresh_more told faults [] ys first more = more
fresh_more told faults (x ∷ xs) ys first more = (first.0, fresh_more told faults xs ys first.1 more)
