-- The files that are stamped are hashed, in order.
use Rattle.std.specs.Prelude.{◌≡◌, ℕ, List, [], ◌∷◌, ◌++◌, Option}
use Rattle.ots_client_endings.specs.Ending.{Ending}
use Rattle.ots_client_endings.specs.Reading.{RefusesInput}
use Rattle.ots_client_inputs.specs.Target.{IsHashOf, RefusesTarget}
use Rattle.ots_inputs.specs.Under.{HasUnder}
use Rattle.ots_ops.specs.declared.hash_op.HashOp.TheVariants.{Sha256}
use Rattle.ots_outside.specs.Shelf.{Names}

-- These are the SHA-256 of what is under these names, in order, each of at most 2^40 bytes.
abbrev pub AreHashed : Option Names → List (List ℕ) → List (List ℕ) → Type 0
AreHashed told [] [] = Unit {0}
AreHashed told [] (digest ∷ digests) = ⊥
AreHashed told (name ∷ names) [] = ⊥
AreHashed told (name ∷ names) (digest ∷ digests) = HasUnder told name (λ bytes. IsHashOf Sha256 bytes digest)
    × AreHashed told names digests

-- One of these names is the first that gives no digest.
pub record RefusesOne (told : Option Names) (names : List (List ℕ)) (e : Ending) : Type 0 where
  pub earlier : List (List ℕ)
  pub name : List ℕ
  pub later : List (List ℕ)
  pub split : names ≡ earlier ++ name ∷ later
  pub digests : List (List ℕ)
  pub hashed : AreHashed told earlier digests
  pub refused : RefusesInput told name RefusesTarget e

-- Files are hashed in order, and the command goes on with their digests; or it ends at the first that is refused.
pub data WithHashes (told : Option Names) (names : List (List ℕ)) (goes_on : List (List ℕ) → Ending → Type 0)
    (e : Ending) : Type 0 where
  are_hashed : (digests : List (List ℕ)) → AreHashed told names digests → goes_on digests e
      → WithHashes told names goes_on e
  one_refused : RefusesOne told names e → WithHashes told names goes_on e
