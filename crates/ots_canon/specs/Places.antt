-- What begins at places among the tokens of trees. It serves the functions that merge nodes.
use Rattle.std.specs.Prelude.{◌≡◌, ◌↔◌, ℕ, ◌+◌, ◌-◌, ◌<◌, ◌≤◌, List, ◌++◌, length, drop, slice_index, All, Contains}
use Rattle.std.specs.Prelude.{sum_by}
use Rattle.ots_ops.specs.declared.op.Op.{Op}
use Rattle.ots_tree.specs.declared.token.Token.{Token}
use Rattle.ots_tree.specs.Wire.{Node, Item, last, step, Path, paths, pre}
use Rattle.ots_canon.specs.Order.{Has}
use Rattle.ots_canon.specs.Canonical.{IsCanonical}

-- the tokens of a node begin at a place
pub record IsNodeAt (ts : List Token) (k : ℕ) (t : Node) : Type 0 where
  pub rest : List Token
  pub are : drop k ts ≡ pre t ++ rest

-- those of some node
pub record HasNode (ts : List Token) (k : ℕ) : Type 0 where
  pub node : Node
  pub is_at : IsNodeAt ts k node

-- at each place
abbrev pub AreNodes : List Token → Type 0
AreNodes ts = (k : ℕ) → k < length ts → HasNode ts k

-- the tokens of an item begin at a place
pub record IsItem (ts : List Token) (k : ℕ) : Type 0 where
  pub item : Item
  pub is_at : IsNodeAt ts k (last item)

-- from a place on, where each node ends
pub record AreEndsFrom (ts : List Token) (n : ℕ) (es : List ℕ) : Type 0 where
  pub length_is : length es ≡ length ts
  pub ends : (k : ℕ) (t : Node) → n ≤ k → IsNodeAt ts k t → slice_index es k ≡ k + length (pre t)

abbrev pub AreEnds : List Token → List ℕ → Type 0
AreEnds ts es = AreEndsFrom ts 0 es

-- how many tokens the node at a place has, and those at some places
abbrev pub size : List ℕ → ℕ → ℕ
size es k = slice_index es k - k

abbrev pub total : List ℕ → List ℕ → ℕ
total es ks = sum_by (size es) ks

-- the node at a place has a path
pub record HasAt (ts : List Token) (k : ℕ) (p : Path) : Type 0 where
  pub node : Node
  pub is_at : IsNodeAt ts k node
  pub has : Has (paths node) p

-- what stands at one of these places has
pub record Among (H : ℕ → Path → Type 0) (ks : List ℕ) (p : Path) : Type 0 where
  pub place : ℕ
  pub listed : Contains ks place
  pub has : H place p

-- one of the nodes at these places has
abbrev pub HasAmong : List Token → List ℕ → Path → Type 0
HasAmong ts ks p = Among (HasAt ts) ks p

-- the node after the operation at a place has
pub record HasAfter (ts : List Token) (k : ℕ) (p : Path) : Type 0 where
  pub op : Op
  pub node : Node
  pub is_at : IsNodeAt ts k (last (step op node))
  pub has : Has (paths node) p

-- items have the paths that something has at places
pub record Covers (ts : List Token) (H : ℕ → Path → Type 0) (ks now : List ℕ) : Type 0 where
  pub items : All (IsItem ts) now
  pub same : (p : Path) → HasAmong ts now p ↔ Among H ks p

-- the places of the items of the node at a place are added
pub record Gathers (ts : List Token) (es : List ℕ) (k : ℕ) (before after : List ℕ) : Type 0 where
  pub more : List ℕ
  pub are : after ≡ before ++ more
  pub items : All (IsItem ts) more
  pub same : (p : Path) → HasAmong ts more p ↔ HasAt ts k p
  pub few : total es more ≤ size es k

-- those after the item at a place, of which an attestation has none
pub record GathersAfter (ts : List Token) (es : List ℕ) (k : ℕ) (before after : List ℕ) : Type 0 where
  pub more : List ℕ
  pub are : after ≡ before ++ more
  pub items : All (IsItem ts) more
  pub same : (p : Path) → HasAmong ts more p ↔ HasAfter ts k p
  pub few : total es more + 1 ≤ size es k

-- the places of the items of all nodes after the operations at these places
pub record AreAfter (ts : List Token) (es ks after : List ℕ) : Type 0 where
  pub covers : Covers ts (HasAfter ts) ks after
  pub few : total es after + length ks ≤ total es ks

-- the tokens of the canonical tree with the paths of the nodes at these places
pub record IsFormOf (ts : List Token) (ks : List ℕ) (us : List Token) : Type 0 where
  pub node : Node
  pub canonical : IsCanonical node
  pub same : (p : Path) → HasAmong ts ks p ↔ Has (paths node) p
  pub are : pre node ≡ us
