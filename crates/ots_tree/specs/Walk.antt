-- A walk over the tokens of a tree in preorder: what it carries to each node that is still open. What
-- that is, and what an operation makes of it, is the walk's own: a length, a count, a message.
use Rattle.std.specs.Prelude.{◌≡◌, ℕ, List, [], ◌∷◌, ◌++◌, Bool, true, false, if◌then◌else◌, Option, Some, None}
use Rattle.std.specs.Prelude.{unwrap_or, option_and_then, option_map}
use Rattle.ots_ops.specs.declared.op.Op.{Op}
use Rattle.ots_tree.specs.declared.token.Token.{Token}
use Rattle.ots_tree.specs.declared.token.Token.TheVariants as token

-- the open nodes: what is carried to each of them, the last one first; whether the last token is a fork
pub record Open (S : Type 0) : Type 0 where
  pub nodes : List S
  pub forked : Bool

-- before the first token
abbrev pub begun : {S : Type 0} → S → Open S
begun s = record { nodes = s ∷ []; forked = false }

-- One more token, at the last open node. An attestation closes it. An operation leads to the node
-- of its result, with what `by` makes of what is carried. A fork, but not after a fork, keeps it open
-- for another item.
abbrev pub next_at : {S : Type 0} → (Op → S → Option S) → S → List S → Bool → Token → Option (Open S)
next_at by s others forked (token.Attestation a) = Some (record { nodes = others; forked = false })
next_at by s others forked (token.Op o) = option_map (λ r. record { nodes = r ∷ others; forked = false }) (by o s)
next_at by s others false token.Fork = Some (record { nodes = s ∷ s ∷ others; forked = true })
next_at by s others true token.Fork = None

abbrev pub next_in : {S : Type 0} → (Op → S → Option S) → List S → Bool → Token → Option (Open S)
next_in by [] forked x = None
next_in by (s ∷ others) forked x = next_at by s others forked x

abbrev pub next : {S : Type 0} → (Op → S → Option S) → Token → Open S → Option (Open S)
next by x s = next_in by s.nodes s.forked x

-- after these tokens, one at a time
abbrev pub opened : {S : Type 0} → (Op → S → Option S) → Open S → List Token → Option (Open S)
opened by s [] = Some s
opened by s (x ∷ xs) = option_and_then (λ u. opened by u xs) (next by x s)

-- all nodes are closed
abbrev pub IsClosed : {S : Type 0} → Option (Open S) → Type 0
IsClosed None = ⊥
IsClosed (Some s) = s.nodes ≡ []

-- a token, with what is carried to the node at which it stands
pub record Met (S : Type 0) : Type 0 where
  pub carried : S
  pub token : Token

abbrev pub met_at : {S : Type 0} → List S → Token → List (Met S)
met_at [] x = []
met_at (s ∷ others) x = record { carried = s; token = x } ∷ []

-- these tokens in their order, as far as the walk goes on
abbrev pub met : {S : Type 0} → (Op → S → Option S) → Open S → List Token → List (Met S)
met by s [] = []
met by s (x ∷ xs) = met_at s.nodes x ++ unwrap_or (option_map (λ u. met by u xs) (next by x s)) []

-- where a walk stands while a node is open
pub record Position (S : Type 0) : Type 0 where
  -- what is carried to the last open node, at which the next token stands
  pub last : S
  -- and to the other open nodes, the last one first
  pub others : List S
  -- the last token is a fork
  pub forked : Bool
  -- how many others are kept before more memory is taken
  pub room : ℕ

abbrev pub open_at : {S : Type 0} → Position S → Open S
open_at w = record { nodes = w.last ∷ w.others; forked = w.forked }

abbrev pub none_open : {S : Type 0} → Open S
none_open = record { nodes = []; forked = false }

-- Where a token leads on from one place, the walk is at the other after it, or at its end where no
-- node is open.
abbrev pub IsStep : {S : Type 0} → (Op → S → Option S) → Token → Position S → Position S → Bool → Type 0
IsStep {S = S} by x from to going = (s : Open S) → next by x (open_at from) ≡ Some s
    → s ≡ (if going then open_at to else none_open)

-- a walk to which each operation has a result
abbrev pub always : {S : Type 0} → (Op → S → S) → Op → S → Option S
always f o s = Some (f o s)

-- what closes all nodes, where tokens are left
abbrev pub Ends : {S : Type 0} → (Op → S → Option S) → Open S → List Token → Type 0
Ends by s [] = Unit {0}
Ends by s (x ∷ xs) = IsClosed (opened by s (x ∷ xs))
