-- How far a proof file has come.
use Rattle.std.specs.Prelude.{◌≡◌, ◌<◌, ◌≤◌, ℕ, List, length, take, min, Option, IsSome}
use Rattle.ots_base.specs.declared.limits.TheConstants.{MAX_PROOF_FILE}
use Rattle.ots_detached.specs.FileFault.{header_fault}
use Rattle.ots_headers.specs.HeaderTable.{Table}
use Rattle.ots_verifier.specs.declared.progress.TheConstants.{MAX_HEADER}
use Rattle.ots_verifier.specs.declared.progress.Progress.{Progress}
use Rattle.ots_verifier.specs.declared.progress.State.{State}
use Rattle.ots_verifier.specs.declared.progress.State.TheVariants.{Header, After, TooBig}
use Rattle.ots_verifier.specs.Following.{IsFresh}
use Rattle.ots_verifier.specs.Stage.{Stands}

-- The header has not come whole, or is none: its first bytes are kept.
pub record IsGathering (bytes : List ℕ) (p : Progress) : Type 0 where
  pub counted : p.count ≡ length bytes
  pub prefix : take (min p.count MAX_HEADER) p.header ≡ take MAX_HEADER bytes
  pub bad : IsSome (header_fault (take MAX_HEADER bytes))
  pub fresh : IsFresh p.following

abbrev pub IsIn : Table → Option Table → List ℕ → Progress → State → Type 0
IsIn bitcoin litecoin bytes p Header = IsGathering bytes p
IsIn bitcoin litecoin bytes p (After s) = Stands bitcoin litecoin bytes p.count s p.following
IsIn bitcoin litecoin bytes p TooBig = MAX_PROOF_FILE < length bytes

-- These bytes have come.
pub record HasCome (bitcoin : Table) (litecoin : Option Table) (bytes : List ℕ) (p : Progress) : Type 0 where
  pub room : p.count ≤ MAX_PROOF_FILE
  pub is_in : IsIn bitcoin litecoin bytes p p.state
