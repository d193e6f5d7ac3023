-- When `verify` says yes, in one sentence: some path of the proof takes the digest of the target to the Merkle root of
-- the given header at the attested height.
use Rattle.std.specs.Prelude.{◌≡◌, ◌≤◌, ℕ, List, length, Option, Some, None}
use Rattle.ots_base.specs.declared.limits.TheConstants.{MAX_TARGET_FILE}
use Rattle.ots_checking.specs.Verified.{HasPerhapsTable}
use Rattle.ots_client_words.specs.Words.{Verification}
use Rattle.ots_detached.specs.File.{IsFileOf}
use Rattle.ots_headers.specs.HeaderTable.{Table}
use Rattle.ots_headers.specs.TableRead.{IsTableOf}
use Rattle.ots_inputs.specs.Under.{HasUnder}
use Rattle.ots_ops.specs.Hashed.{hashed}
use Rattle.ots_outside.specs.Shelf.{Names}
use Rattle.ots_tree.specs.declared.detached.Detached.{Detached}
use Rattle.ots_verdicts.specs.Confirmed.{IsConfirmed}
use Rattle.ots_verdicts.specs.declared.verdicts.Chain.{Chain}
use Rattle.ots_verdicts.specs.declared.verdicts.Chain.TheVariants as chain

-- By the headers of this chain, where they are given, some path confirms the height.
abbrev pub IsConfirmedOn : Chain → Table → Option Table → Detached → ℕ → Type 0
IsConfirmedOn chain.Bitcoin bitcoin litecoin proof height = IsConfirmed chain.Bitcoin bitcoin proof height
IsConfirmedOn chain.Litecoin bitcoin None proof height = ⊥
IsConfirmedOn chain.Litecoin bitcoin (Some litecoin) proof height = IsConfirmed chain.Litecoin litecoin proof height

-- The proof is of the target's digest, by its own hash, and on some chain confirms some height.
abbrev pub SaysYes : Detached → List ℕ → Table → Option Table → Type 0
SaysYes proof target bitcoin litecoin =
    (hashed proof.hash target ≡ proof.digest) × (c : Chain) × (height : ℕ)
    × IsConfirmedOn c bitcoin litecoin proof height

-- Under the names that `verify` reads are headers, a proof, and a target of at most 2^40 bytes.
pub record HasFiles (names : Names) (v : Verification) (bitcoin : Table) (litecoin : Option Table) (proof : Detached)
    (target : List ℕ) : Type 0 where
  pub of_bitcoin : HasUnder (Some names) v.bitcoin.name (λ bytes. IsTableOf v.bitcoin.first bytes bitcoin)
  pub of_litecoin : HasPerhapsTable (Some names) v.litecoin litecoin
  pub of_proof : HasUnder (Some names) v.proof (λ bytes. IsFileOf bytes proof)
  pub of_target : HasUnder (Some names) v.target (λ bytes. (bytes ≡ target) × (length bytes ≤ MAX_TARGET_FILE))
