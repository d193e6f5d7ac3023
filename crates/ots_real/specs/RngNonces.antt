-- What nonces from a random source are seen as.
use Rattle.std.specs.Prelude.{◌≡◌, ℕ, List, [], ◌++◌, length}
use Rattle.ots_real.specs.declared.rng_nonces.RngNonces.{RngNonces}

-- The random source.
abbrev pub random_of : {G Error : Type 0} → RngNonces G Error → G
random_of nonces = nonces.random

-- The bytes that were drawn, and are not given out.
abbrev pub reserve_of : {G Error : Type 0} → RngNonces G Error → List ℕ
reserve_of nonces = nonces.reserve

-- How often a draw has failed.
abbrev pub draw_faults : {G Error : Type 0} → RngNonces G Error → ℕ
draw_faults nonces = nonces.faults

-- A nonce was given out: the last bytes that were left of an earlier draw; or, where none was left, the last ones that
-- the source then gave for sixteen nonces.
pub data GivesNonce {G : Type 0} (may_fill : G → List ℕ → G → Type 0) (random : G) (reserve nonce : List ℕ)
    (random_after : G) (reserve_after : List ℕ) : Type 0 where
  kept : reserve ≡ reserve_after ++ nonce → random_after ≡ random
      → GivesNonce may_fill random reserve nonce random_after reserve_after
  drawn : reserve ≡ [] → length (reserve_after ++ nonce) ≡ 256
      → may_fill random (reserve_after ++ nonce) random_after
      → GivesNonce may_fill random reserve nonce random_after reserve_after
