-- Which nodes lead to a Bitcoin attestation of one height, and the first path that ends there. It
-- serves the functions that prune.
use Rattle.std.specs.Prelude.{◌≡◌, ◌⊎◌, ◌↔◌, ℕ, ◌<◌, ◌≤◌, List, [], ◌∷◌, ◌++◌, map, length, Contains, slice_index_or}
use Rattle.std.specs.Prelude.{nat_lt, Bool, true, false, ◌&&◌, Option, Some, None, if◌then◌else◌}
use Rattle.std.specs.Ordering.{is_lt, is_eq}
use Rattle.std.specs.declared.cmp.Ordering.TheVariants.{Less}
use Rattle.ots_ops.specs.declared.op.Op.{Op}
use Rattle.ots_attest.specs.declared.attestation.Attestation.{Attestation}
use Rattle.ots_attest.specs.declared.attestation.Attestation.TheVariants.{Pending, Bitcoin, Litecoin, Unknown}
use Rattle.ots_tree.specs.declared.token.Token.{Token}
use Rattle.ots_tree.specs.declared.token.Token.TheVariants as token
use Rattle.ots_tree.specs.Wire.{Path}
use Rattle.ots_canon.specs.Order.{path_cmp, step_cmp}
use Rattle.ots_canon.specs.Steps.{step_at}
use Rattle.ots_canon.specs.Places.{HasAt, HasAmong}

-- the Bitcoin height of a token, which one of Litecoin does not have
abbrev pub height_of : Attestation → Option ℕ
height_of (Pending uri) = None
height_of (Bitcoin height) = Some height
height_of (Litecoin height) = None
height_of (Unknown other) = None

abbrev pub token_height : Token → Option ℕ
token_height token.Fork = None
token_height (token.Op o) = None
token_height (token.Attestation a) = height_of a

-- the lower of two heights, where there are two
abbrev pub lower : Option ℕ → Option ℕ → Option ℕ
lower None other = other
lower (Some one) None = Some one
lower (Some one) (Some other) = if nat_lt other one then Some other else Some one

-- the attestation of a height
abbrev pub bitcoin : ℕ → Token
bitcoin height = token.Attestation (Bitcoin height)

-- the least height of those that stand among tokens
abbrev pub IsLeastHeight : List Token → Option ℕ → Type 0
IsLeastHeight ts None = (height : ℕ) → Contains ts (bitcoin height) → ⊥
IsLeastHeight ts (Some least) = Contains ts (bitcoin least) × ((height : ℕ) → Contains ts (bitcoin height)
    → least ≤ height)

-- the node at a place has a path that ends in this height
pub record Leads (ts : List Token) (height k : ℕ) : Type 0 where
  pub path : Path
  pub has : HasAt ts k path
  pub ends : path.end ≡ Bitcoin height

abbrev pub is_marked : List Bool → ℕ → Bool
is_marked ls k = slice_index_or ls k false

-- from a place on, the nodes that do are marked
pub record AreLeadsFrom (ts : List Token) (height n : ℕ) (ls : List Bool) : Type 0 where
  pub length_is : length ls ≡ length ts
  pub leads : (k : ℕ) → n ≤ k → k < length ts → (is_marked ls k ≡ true) ↔ Leads ts height k

abbrev pub AreLeads : List Token → ℕ → List Bool → Type 0
AreLeads ts height ls = AreLeadsFrom ts height 0 ls

-- the one of two places that comes first, where there are two
abbrev pub first_of : List Token → Option ℕ → ℕ → ℕ
first_of ts None k = k
first_of ts (Some first) k = if is_lt (step_cmp (step_at ts k) (step_at ts first)) then k else first

-- a marked place at which no later item begins than at any other
pub record IsFirst (ts : List Token) (ls : List Bool) (ks : List ℕ) (first : ℕ) : Type 0 where
  pub listed : Contains ks first
  pub marked : is_marked ls first ≡ true
  pub least : (k : ℕ) → Contains ks k → is_marked ls k ≡ true
      → is_lt (step_cmp (step_at ts k) (step_at ts first)) ≡ false

-- the first of the marked ones among some places
abbrev pub IsFirstMarked : List Token → List Bool → List ℕ → Option ℕ → Type 0
IsFirstMarked ts ls ks None = (k : ℕ) → Contains ks k → is_marked ls k ≡ true → ⊥
IsFirstMarked ts ls ks (Some first) = IsFirst ts ls ks first

-- a marked place at which an item begins as the one at `first` does
abbrev pub is_of_run : List Token → List Bool → ℕ → ℕ → Bool
is_of_run ts ls first k = is_marked ls k && is_eq (step_cmp (step_at ts first) (step_at ts k))

-- a path's operations, and its attestation
abbrev pub line : Path → List Token
line p = map (λ (o : Op). token.Op o) p.ops ++ token.Attestation p.end ∷ []

-- the first of the paths that end in a height, of those of the nodes at some places
pub record IsFirstPath (ts : List Token) (height : ℕ) (ks : List ℕ) (p : Path) : Type 0 where
  pub one : HasAmong ts ks p
  pub ends : p.end ≡ Bitcoin height
  pub least : (q : Path) → HasAmong ts ks q → q.end ≡ Bitcoin height → (q ≡ p) ⊎ (path_cmp p q ≡ Less)

-- its tokens, or none where no path ends in that height
abbrev pub IsLineOfFirst : List Token → ℕ → List ℕ → List Token → Type 0
IsLineOfFirst ts height ks us =
    ((p : Path) × IsFirstPath ts height ks p × (us ≡ line p))
    ⊎ (((p : Path) → HasAmong ts ks p → p.end ≡ Bitcoin height → ⊥) × (us ≡ []))
