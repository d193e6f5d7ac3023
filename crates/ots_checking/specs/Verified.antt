-- What `verify` prints: the verdict on a proof, by headers and a target.
use Rattle.std.specs.Prelude.{◌≡◌, ◌⊎◌, ℕ, List, [], ◌∷◌, ◌++◌, Option, Some, None, Result}
use Rattle.ots_base.specs.Cause.{Rose}
use Rattle.ots_checking.specs.declared.evidence.Evidence.{Evidence}
use Rattle.ots_client_endings.specs.Ending.{Ending, printing}
use Rattle.ots_client_endings.specs.Reading.{Reads, RefusesInput, WithInput, WithProof}
use Rattle.ots_client_inputs.specs.Headers.{RefusesTable}
use Rattle.ots_client_inputs.specs.Inputs.{Input, headers_under, names_in, proof_under, target_under}
use Rattle.ots_client_inputs.specs.Target.{IsHashOf, RefusesTarget}
use Rattle.ots_client_text.specs.Lines.{verdict_text}
use Rattle.ots_client_text.specs.Status.{verdict_status}
use Rattle.ots_client_text.specs.declared.status.Status.{Status}
use Rattle.ots_client_words.specs.Words.{HeaderFile, Verification}
use Rattle.ots_headers.specs.HeaderTable.{Table}
use Rattle.ots_headers.specs.TableRead.{IsTableOf}
use Rattle.ots_inputs.specs.Opened.{OpensPrefix}
use Rattle.ots_inputs.specs.Under.{HasUnder}
use Rattle.ots_inputs.specs.declared.error.Stop.{Stop}
use Rattle.ots_ops.specs.declared.hash_op.HashOp.{HashOp}
use Rattle.ots_outside.specs.Shelf.{Names, ShelfFaults, ShelfTold}
use Rattle.ots_tree.specs.declared.detached.Detached.{Detached}
use Rattle.ots_verdicts.specs.Confirmed.{IsVerdict}
use Rattle.ots_verdicts.specs.declared.verdicts.Verdict.{Verdict}
use Rattle.ots_verifier.specs.Checked.{IsCheckOf}

-- ---- names

-- the headers that may be given
abbrev pub perhaps_headers : Option HeaderFile → List Input
perhaps_headers None = []
perhaps_headers (Some file) = headers_under file ∷ []

-- what is read, in order
abbrev pub inputs_verified : Verification → List Input
inputs_verified v = headers_under v.bitcoin ∷ perhaps_headers v.litecoin ++ proof_under v.proof
    ∷ target_under v.target ∷ []

-- the names of the files of headers, in the order in which they are read
abbrev pub header_names : Verification → List (List ℕ)
header_names v = names_in (headers_under v.bitcoin ∷ perhaps_headers v.litecoin)

-- ---- what is read

-- a file of headers, and a file that is hashed
abbrev pub WithTable : Option Names → HeaderFile → (Table → Ending → Type 0) → Ending → Type 0
WithTable told file = WithInput told file.name (IsTableOf file.first) RefusesTable

abbrev pub WithTarget : Option Names → List ℕ → HashOp → (List ℕ → Ending → Type 0) → Ending → Type 0
WithTarget told name hash = WithInput told name (IsHashOf hash) RefusesTarget

-- the headers that may be given
abbrev pub WithPerhapsTable : Option Names → Option HeaderFile → (Option Table → Ending → Type 0) → Ending → Type 0
WithPerhapsTable told None goes_on e = goes_on None e
WithPerhapsTable told (Some file) goes_on e = WithTable told file (λ table. goes_on (Some table)) e

-- They are under their name, or none are given.
abbrev pub HasPerhapsTable : Option Names → Option HeaderFile → Option Table → Type 0
HasPerhapsTable told None None = Unit {0}
HasPerhapsTable told None (Some table) = ⊥
HasPerhapsTable told (Some file) None = ⊥
HasPerhapsTable told (Some file) (Some table) = HasUnder told file.name (λ bytes. IsTableOf file.first bytes table)

-- They are given, and refused.
abbrev pub RefusesPerhapsTable : Option Names → Option HeaderFile → Ending → Type 0
RefusesPerhapsTable told None e = ⊥
RefusesPerhapsTable told (Some file) e = RefusesInput told file.name RefusesTable e

-- ---- what is printed

abbrev pub TellsVerdict : Verdict → Ending → Type 0
TellsVerdict v e = e ≡ printing (verdict_status v) (verdict_text v)

abbrev pub PrintsVerdict : Detached → Table → Option Table → List ℕ → Ending → Type 0
PrintsVerdict proof bitcoin litecoin digest e = (v : Verdict) × IsVerdict proof digest bitcoin litecoin v
    × TellsVerdict v e

-- The headers of Bitcoin are read, those of Litecoin where they are given, then the proof, and the target is hashed by
-- the hash of the proof.
abbrev pub VerifiesTarget : Option Names → List ℕ → Table → Option Table → Detached → Ending → Type 0
VerifiesTarget told target bitcoin litecoin proof = WithTarget told target proof.hash
    (PrintsVerdict proof bitcoin litecoin)

abbrev pub VerifiesProof : Option Names → Verification → Table → Option Table → Ending → Type 0
VerifiesProof told v bitcoin litecoin = WithProof told v.proof (VerifiesTarget told v.target bitcoin litecoin)

abbrev pub VerifiesBy : Option Names → Verification → Table → Ending → Type 0
VerifiesBy told v bitcoin = WithPerhapsTable told v.litecoin (VerifiesProof told v bitcoin)

abbrev pub Verifies : Option Names → Verification → Ending → Type 0
Verifies told v = WithTable told v.bitcoin (VerifiesBy told v)

-- ---- memory

-- Nothing was opened but files of headers; or the shelf ran out of memory.
abbrev pub RunsShort : Verification → ShelfTold → ShelfTold → Type 0
RunsShort v old new = OpensPrefix (header_names v) old.opened new.opened ⊎ Rose old.short new.short

-- ---- for the code

-- the verdict that comes of what was read, whichever proof and headers were found to be so
abbrev pub ComesOf : Evidence → Verdict → Type 0
ComesOf x v = (proof : Detached) (bitcoin : Table) (litecoin : Option Table)
    → IsCheckOf proof bitcoin litecoin x.checked → IsVerdict proof x.digest bitcoin litecoin v

abbrev pub TellsEvidence : Evidence → Ending → Type 0
TellsEvidence x e = (v : Verdict) × ComesOf x v × TellsVerdict v e

-- Everything was read, and the command ends as what comes of that; or it ends at a name.
abbrev pub ReadsEvidence : Verification → ShelfTold → ShelfTold → ShelfFaults → ShelfFaults
    → Result Evidence (Stop Status) → Type 0
ReadsEvidence v = Reads (inputs_verified v) (λ told x. (e : Ending) → TellsEvidence x e → Verifies told v e)
    (λ told. Verifies told v)
