-- The lines of trees.
use Rattle.std.specs.Prelude.{ℕ, List}
use Rattle.std.specs.List.{flat_map}
use Rattle.ots_calendar_text.specs.Lines.{tree_line}
use Rattle.ots_tree.specs.Wire.{spelled}
use Rattle.ots_tree.specs.declared.token.Token.{Token}

-- a line for each, all of one index
unfoldable pub trees_lines : ℕ → List (List Token) → List ℕ
trees_lines index trees = flat_map (λ (tree : List Token). tree_line index (spelled tree)) trees
