-- Tokens that are at hand beside their places. It serves the function that sorts items.
use Rattle.std.specs.Prelude.{◌≡◌, ℕ, List, map, All, Bool}
use Rattle.std.specs.Ordering.{is_lt}
use Rattle.ots_ops.specs.declared.op.Op.TheVariants.{Sha256 as sha256}
use Rattle.ots_attest.specs.declared.attestation.Attestation.TheVariants as attestation
use Rattle.ots_tree.specs.declared.token.Token.{Token}
use Rattle.ots_canon.specs.declared.heads.Head.{Head}
use Rattle.ots_canon.specs.declared.heads.Head.TheVariants as head
use Rattle.ots_canon.specs.declared.heads.Item.{Item}
use Rattle.ots_canon.specs.Order.{op_step, end_step, step_cmp}
use Rattle.ots_canon.specs.Steps.{token_step, step_at}

-- a head as a step
abbrev pub head_step : Head → List ℕ
head_step (head.Bitcoin height) = end_step (attestation.Bitcoin height)
head_step head.Sha256 = op_step sha256
head_step (head.Token x) = token_step x.now

abbrev pub place_of : Item → ℕ
place_of i = i.place

-- the head of one comes before that of another
abbrev pub head_before : Item → Item → Bool
head_before i j = is_lt (step_cmp (head_step i.head) (head_step j.head))

-- the head is that of the token at the place
abbrev pub IsHead : List Token → Item → Type 0
IsHead ts i = head_step i.head ≡ step_at ts i.place

-- items are those at these places
pub record AreHeads (ts : List Token) (ks : List ℕ) (items : List Item) : Type 0 where
  pub places : map place_of items ≡ ks
  pub heads : All (IsHead ts) items
