-- The lines of the commands.
use Rattle.std.specs.Prelude.{ℕ, List, ◌++◌, codes, decimal}
use Rattle.hex.specs.Hex.{encode_lower}
use Rattle.ots_outputs.specs.Lines.{line}

abbrev pub commit_line : ℕ → List ℕ → List ℕ
commit_line index commitment = line (codes "commit " ++ decimal index ++ codes " " ++ encode_lower commitment)

abbrev pub tip_line : ℕ → ℕ → List ℕ → List ℕ
tip_line first count root = line (codes "tip " ++ decimal first ++ codes " " ++ decimal count ++ codes " "
    ++ encode_lower root)

abbrev pub anchor_line : ℕ → ℕ → ℕ → List ℕ → List ℕ
anchor_line first count height root =
    line (codes "anchor " ++ decimal first ++ codes " " ++ decimal count ++ codes " " ++ decimal height ++ codes " "
    ++ encode_lower root)

abbrev pub anchored_line : ℕ → ℕ → ℕ → List ℕ
anchored_line first count height = line (codes "anchored " ++ decimal first ++ codes " " ++ decimal count
    ++ codes " block " ++ decimal height)

abbrev pub migrated_line : ℕ → List ℕ
migrated_line count = line (codes "migrated " ++ decimal count)

abbrev pub listening_line : ℕ → List ℕ
listening_line port = line (codes "listening " ++ decimal port)

abbrev pub served_line : ℕ → List ℕ
served_line count = line (codes "served " ++ decimal count)

abbrev pub tree_line : ℕ → List ℕ → List ℕ
tree_line index tree = line (decimal index ++ codes " " ++ encode_lower tree)
