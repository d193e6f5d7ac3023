-- A chain of headers. Source: Bitcoin Core, src/primitives/block.h, hashPrevBlock, and src/pow.cpp, CheckProofOfWork.
use Rattle.std.specs.Prelude.{◌≡◌, ◌+◌, ◌-◌, ◌<◌, ◌≤◌, ◌⊎◌, ℕ, List, length, Option, Some, None}
use Rattle.ots_headers.specs.DoubleSha256.{double_sha256}
use Rattle.ots_headers.specs.declared.header.Header.{Header}
use Rattle.ots_headers.specs.Header.{serialized}
use Rattle.ots_headers.specs.HeaderTable.{Table, header_at}
use Rattle.ots_chain.specs.declared.checking.ChainFault.{ChainFault}
use Rattle.ots_chain.specs.declared.checking.ChainFault.TheVariants.{BadLink, BadBits, AboveTarget}
use Rattle.ots_chain.specs.declared.checking.ChainCheck.{ChainCheck}
use Rattle.ots_chain.specs.declared.checking.ChainCheck.TheVariants.{Whole, Broken}
use Rattle.ots_chain.specs.Target.{HasTarget, compact, le_number}

abbrev pub hash_of : Header → List ℕ
hash_of h = double_sha256 (serialized h)

-- the table's first header names no header of the table, and each other the one before it
abbrev pub IsLinked : Table → ℕ → Header → Type 0
IsLinked t height h = (height ≡ t.first) ⊎ ((before : Header) × (header_at t (height - 1) ≡ Some before)
    × (h.previous ≡ hash_of before))

abbrev pub MeetsTarget : ℕ → List ℕ → Type 0
MeetsTarget bits hash = le_number hash ≤ compact bits

-- no fault, or the first of the three, for a header of these bits and this hash
abbrev pub FaultOf : Type 0 → ℕ → List ℕ → Option ChainFault → Type 0
FaultOf linked bits hash None = linked × HasTarget bits × MeetsTarget bits hash
FaultOf linked bits hash (Some BadLink) = linked → ⊥
FaultOf linked bits hash (Some BadBits) = linked × (HasTarget bits → ⊥)
FaultOf linked bits hash (Some AboveTarget) = linked × HasTarget bits × (MeetsTarget bits hash → ⊥)

-- the header of a height, and what is the matter with it
pub record HasFaultAt (t : Table) (height : ℕ) (answer : Option ChainFault) : Type 0 where
  pub header : Header
  pub there : header_at t height ≡ Some header
  pub fault : FaultOf (IsLinked t height header) header.bits (hash_of header) answer

abbrev pub AreGood : Table → ℕ → Type 0
AreGood t end = (height : ℕ) → t.first ≤ height → height < end → HasFaultAt t height None

pub record IsTip (t : Table) (height : ℕ) (tip : List ℕ) : Type 0 where
  pub header : Header
  pub there : header_at t height ≡ Some header
  pub hash : tip ≡ hash_of header

-- Each header is good; or each below a height, and the one there is not.
abbrev pub IsCheckOf : Table → ChainCheck → Type 0
IsCheckOf t (Whole first last tip) =
    (first ≡ t.first) × (last + 1 ≡ t.first + length t.headers) × AreGood t (last + 1) × IsTip t last tip
IsCheckOf t (Broken height fault) = (t.first ≤ height) × AreGood t height × HasFaultAt t height (Some fault)

abbrev pub IsWhole : ChainCheck → Type 0
IsWhole (Whole first last tip) = Unit {0}
IsWhole (Broken height fault) = ⊥
