-- What a hasher is seen as, and what it keeps.
use Rattle.std.specs.Prelude.{◌≡◌, ℕ, List}
use Rattle.ots_ops.specs.declared.hash_op.HashOp.{HashOp}
use Rattle.ots_ops.specs.declared.hash_op.HashOp.TheVariants as hash
use Rattle.ots_ops.specs.declared.hasher.State.{State}
use Rattle.ots_ops.specs.declared.hasher.State.TheVariants.{Sha1, Ripemd160, Sha256}
use Rattle.sha1.specs.Sha1.{Holds}
use Rattle.sha2.specs.Hashers.{Holds256}

pub record Hashing : Type 0 where
  pub hash : HashOp
  -- the bytes that it was fed
  pub fed : List ℕ

abbrev pub hash_of : State → HashOp
hash_of (Sha1 hasher) = hash.Sha1
hash_of (Ripemd160 hasher) = hash.Ripemd160
hash_of (Sha256 hasher) = hash.Sha256

-- the state is that of a hasher of these bytes
abbrev pub HasFed : State → List ℕ → Type 0
HasFed (Sha1 hasher) fed = Holds hasher fed
HasFed (Ripemd160 hasher) fed = hasher ≡ fed
HasFed (Sha256 hasher) fed = Holds256 hasher fed
