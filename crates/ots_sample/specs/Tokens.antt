-- The tokens of a sample's tree as it is made, with a fork before each item but the last. They serve
-- the functions that make it.
use Rattle.std.specs.Prelude.{◌≡◌, ℕ, zero, suc, List, [], ◌∷◌, ◌++◌}
use Rattle.std.specs.Int.{w32, to_be_bytes}
use Rattle.ots_ops.specs.declared.hash_op.HashOp.TheVariants as hash
use Rattle.ots_ops.specs.declared.op.Op.TheVariants.{Append, Sha256}
use Rattle.ots_attest.specs.declared.attestation.Attestation.TheVariants.{Bitcoin}
use Rattle.ots_tree.specs.declared.token.Token.{Token}
use Rattle.ots_tree.specs.declared.token.Token.TheVariants as token
use Rattle.ots_tree.specs.declared.detached.Detached.{Detached}
use Rattle.ots_canon.specs.Canonical.{IsCanonOf}
use Rattle.ots_sample.specs.Sample.{digest_of}

abbrev pub fork_before : ℕ → List Token
fork_before zero = []
fork_before (suc i) = token.Fork ∷ []

abbrev pub path_tokens : ℕ → List Token
path_tokens i = token.Op (Append (to_be_bytes w32 i)) ∷ token.Op Sha256 ∷ token.Attestation (Bitcoin i) ∷ []

abbrev pub item_tokens : ℕ → List Token
item_tokens i = fork_before i ++ path_tokens i

abbrev pub tokens_below : ℕ → List Token
tokens_below zero = []
tokens_below (suc i) = item_tokens i ++ tokens_below i

-- the proof as it is made
pub record IsMadeOf (n : ℕ) (p : Detached) : Type 0 where
  pub hash : p.hash ≡ hash.Sha256
  pub digest : p.digest ≡ digest_of n
  pub tree : p.tree ≡ tokens_below n

-- the second proof is the first in canonical form
pub record IsFormOf (p q : Detached) : Type 0 where
  pub hash : q.hash ≡ p.hash
  pub digest : q.digest ≡ p.digest
  pub tree : IsCanonOf p.tree q.tree
