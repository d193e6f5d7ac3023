-- What peaks are seen as: a tree that grows, and its spare pushes.
use Rattle.std.specs.Prelude.{ℕ, List}

pub record Grown : Type 0 where
  -- the leaves that were pushed, in order
  pub leaves : List (List ℕ)
  -- how many pushes can't be refused from here on, at least
  pub spare : ℕ
