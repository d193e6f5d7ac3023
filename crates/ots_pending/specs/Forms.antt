-- The canonical forms of trees: for the code.
use Rattle.std.specs.Prelude.{List, [], ◌∷◌, Option, None, Some}
use Rattle.ots_tree.specs.declared.token.Token.{Token}
use Rattle.ots_canon.specs.Canonical.{IsCanonOf}

-- the canonical form of a tree, if it is one
abbrev pub IsForm : Option (List Token) → Option (List Token) → Type 0
IsForm None None = Unit {0}
IsForm None (Some form) = ⊥
IsForm (Some tree) None = ⊥
IsForm (Some tree) (Some form) = IsCanonOf tree form

-- so of each of these trees
abbrev pub AreForms : List (Option (List Token)) → List (Option (List Token)) → Type 0
AreForms [] [] = Unit {0}
AreForms [] (f ∷ forms) = ⊥
AreForms (t ∷ trees) [] = ⊥
AreForms (t ∷ trees) (f ∷ forms) = IsForm t f × AreForms trees forms
