-- The line of one item more.
use Rattle.std.proofs.Common.{◌≡◌, ℕ, ◌+◌, ◌<◌, List, [], ◌∷◌, ◌++◌, length, get_or, take, sym, ap, ◌∙◌, append-nil}
use Rattle.std.proofs.lemmas.List.Concat.{flat_map-append}
use Rattle.std.specs.List.{flat_map}
use Rattle.ots_tree.specs.declared.token.Token.{Token}
use Rattle.ots_tree.specs.declared.token.TokenAt.{TokenAt}
use Rattle.ots_tree.specs.Kept.{beside}
use Rattle.ots_tree.proofs.Numbered.{beside_more}
use Rattle.ots_info.specs.Listing.{item_line, item_words}

pub one_more : (tokens : List Token) (depths : List ℕ) (i : ℕ) (x : Token) → length depths ≡ length tokens → i < length tokens → x ≡ get_or tokens i x
    → flat_map item_line (take i (beside tokens depths)) ++ item_words (get_or depths i 0) x ≡ flat_map item_line (take (i + 1) (beside tokens depths))
one_more tokens depths i x same in_range is =
    let item : TokenAt = record { token = x; depth = get_or depths i 0 } in
    ap (λ (z : List ℕ). flat_map item_line (take i (beside tokens depths)) ++ z) (sym (append-nil (item_line item)))
    ∙ sym (flat_map-append item_line (take i (beside tokens depths)) (item ∷ []))
    ∙ ap (flat_map item_line) (sym (beside_more tokens depths i x same in_range is))
