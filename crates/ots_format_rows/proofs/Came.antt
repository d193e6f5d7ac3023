-- How many bytes a reader was fed.
use Rattle.std.proofs.Common.{◌≡◌, ◌≤◌, ◌+◌, ◌-◌, ◌++◌, ℕ, List, length, sym, subst, Ok}
use Rattle.std.proofs.Common.{arith, length-append}
use Rattle.ots_tree.specs.declared.shape.Shape.{Shape}
use Rattle.ots_reader.specs.Progress.{Progress, reading, whole, refused, Feeds}
use Rattle.ots_reader.specs.declared.fed.Fed.TheVariants.{More}
use Rattle.ots_reader.specs.Tokens.{Tokens, so_far, IsReading}

-- its tree goes on after so many bytes
abbrev pub Came : Progress → ℕ → Type 0
Came (reading fed) n = length fed ≡ n
Came (whole tree) n = ⊥
Came (refused e) n = ⊥

-- its tree goes on, and so many bytes may still come
abbrev pub MayCome : Progress → ℕ → Type 0
MayCome (reading fed) left = length fed + left ≡ 4194304
MayCome (whole tree) left = ⊥
MayCome (refused e) left = ⊥

fewer : (fed piece : List ℕ) (left : ℕ) → length fed + left ≡ 4194304 → length piece ≤ left
    → length (fed ++ piece) + (left - length piece) ≡ 4194304
fewer fed piece left h l = omega (arith, h, l, length-append fed piece)

-- after a piece that the tree goes on after, fewer bytes may come
pub may_go_on : (at : Shape) (p now : Progress) (piece : List ℕ) (left : ℕ) → MayCome p left → length piece ≤ left
    → Feeds at p piece (Ok More) now → MayCome now (left - length piece)
may_go_on at (reading fed) now piece left h l f = subst (λ (q : Progress). MayCome q (left - length piece)) (sym f.1) (fewer fed piece left h l)
may_go_on at (whole tree) now piece left h l f = absurd h
may_go_on at (refused e) now piece left h l f = absurd h

-- a reader whose tree goes on after so many bytes
pub record HandsOut (r : Tokens) (n : ℕ) : Type 0 where
  pub reading : IsReading r
  pub came : length (so_far r) ≡ n

-- a reader whose tree goes on, to which so many bytes may still come
pub record MayHandOut (r : Tokens) (left : ℕ) : Type 0 where
  pub reading : IsReading r
  pub few : length (so_far r) + left ≤ 4194304
