-- The tokens of a tree, each with the number of operations before it on its path. A number over
-- 2^32 - 1 is given as 2^32 - 1.
use Rattle.std.specs.Prelude.{◌≡◌, ℕ, suc, ◌+◌, ◌-◌, ◌^◌, min, List, [], ◌∷◌, ◌++◌, length, Bool, true, false}
use Rattle.ots_tree.specs.declared.token.Token.{Token}
use Rattle.ots_tree.specs.declared.token.Token.TheVariants as token
use Rattle.ots_tree.specs.declared.token.TokenAt.{TokenAt}
use Rattle.ots_tree.specs.Wire.{Node, Item, last, more, attested, step, pre, Path}

abbrev pub at_depth : ℕ → Token → TokenAt
at_depth k x = record { token = x; depth = min k (2 ^ 32 - 1) }

-- in preorder, below k operations
abbrev mutual
  pub listed : ℕ → Node → List TokenAt
  listed k (last i) = listed_item k i
  listed k (more i t) = at_depth k token.Fork ∷ (listed_item k i ++ listed k t)

  pub listed_item : ℕ → Item → List TokenAt
  listed_item k (attested a) = at_depth k (token.Attestation a) ∷ []
  listed_item k (step o t) = at_depth k (token.Op o) ∷ listed (suc k) t

-- these are the tokens of a tree, which are seen as a list, with their numbers
abbrev pub IsListed : List Token → List TokenAt → Type 0
IsListed ts ls = (t : Node) × (pre t ≡ ts) × (listed 0 t ≡ ls)

abbrev pub token_of : TokenAt → Token
token_of l = l.token

abbrev pub is_attestation : Token → Bool
is_attestation token.Fork = false
is_attestation (token.Op o) = false
is_attestation (token.Attestation a) = true

-- the attestation at the end of a path, below k operations and those of the path
abbrev pub end_below : ℕ → Path → TokenAt
end_below k p = at_depth (k + length p.ops) (token.Attestation p.end)
