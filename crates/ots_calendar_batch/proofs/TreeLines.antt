-- The lines of trees, one after another.
use Rattle.std.proofs.Common.{◌≡◌, ◌<◌, ℕ, ◌+◌, List, [], ◌∷◌, ◌++◌, length, take, get_or, refl, sym, ap, subst, ◌∙◌, append-nil}
use Rattle.std.proofs.lemmas.List.{take_more}
use Rattle.std.proofs.lemmas.List.Concat.{flat_map-append}
use Rattle.ots_tree.specs.Wire.{spelled}
use Rattle.ots_tree.specs.declared.token.Token.{Token}
use Rattle.ots_calendar_text.specs.Lines.{tree_line}
use Rattle.ots_calendar_batch.specs.Trees.{trees_lines}

pub no_trees : (index : ℕ) → [] ≡ trees_lines index []
unfolding trees_lines
no_trees index = refl

pub next_tree : (index : ℕ) (trees items : List (List Token)) (i : ℕ) (tree : List Token) → items ≡ trees → i < length items → tree ≡ get_or items i tree
    → trees_lines index (take i trees) ++ tree_line index (spelled tree) ≡ trees_lines index (take (i + 1) trees)
unfolding trees_lines
next_tree index trees items i tree same less is =
    let f : List Token → List ℕ = λ (t : List Token). tree_line index (spelled t) in
    let within : i < length trees = subst (λ (z : List (List Token)). i < length z) same less in
    let item : tree ≡ get_or trees i tree = is ∙ ap (λ (z : List (List Token)). get_or z i tree) same in
    ap (λ (z : List ℕ). trees_lines index (take i trees) ++ z) (ap f item ∙ sym (append-nil (f (get_or trees i tree))))
    ∙ (sym (flat_map-append f (take i trees) (get_or trees i tree ∷ [])) ∙ ap (trees_lines index) (sym (take_more trees i tree within)))
