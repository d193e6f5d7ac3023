-- A file that is no block.
use Rattle.std.proofs.Common.{◌≡◌, ◌≤◌, ℕ, List, length, refl, sym, subst}
use Rattle.std.specs.Prelude.{Result, Ok, Err, Vec}
use Rattle.std.specs.declared.alloc.Global.{Global}
use Rattle.ots_base.specs.declared.limits.TheConstants.{MAX_PROOF_FILE}
use Rattle.ots_block.specs.Block.{Contents}
use Rattle.ots_block.specs.BlockRead.{HasFault, IsBlockError}
use Rattle.ots_block.specs.declared.fault.BlockError.{BlockError}
use Rattle.ots_block.specs.declared.fault.BlockError.TheVariants as error
use Rattle.ots_block.specs.declared.fault.BlockReason.{BlockReason}
use Rattle.ots_calendar_text.specs.declared.status.DaemonStatus.TheVariants.{BadBlock}
use Rattle.ots_inputs.specs.declared.error.InputError.{InputError}
use Rattle.ots_inputs.specs.declared.error.InputError.TheVariants.{Refused}
use Rattle.ots_inputs.specs.declared.file.TooBig.{TooBig}
use Rattle.ots_calendar_inputs.specs.Block.{GivesBlock, RefusesBlock, bad_block}
use Rattle.ots_inputs.specs.File.{IsWithin, MeansInput}

pub block_refused : (read : Result (Vec ℕ Global) (InputError TooBig)) (bytes : Vec ℕ Global) (items : List ℕ) (e : BlockError) (place : ℕ) (reason : BlockReason) → read ≡ Ok bytes → items ≡ bytes.items
    → e ≡ error.BadBlock place reason → IsWithin MAX_PROOF_FILE read → IsBlockError items e
    → MeansInput {A = Contents} GivesBlock RefusesBlock MAX_PROOF_FILE read (Err (Refused (BadBlock place reason)))
block_refused read bytes items e place reason is same why within refuses =
    let few : length bytes.items ≤ MAX_PROOF_FILE = subst (IsWithin MAX_PROOF_FILE) is within in
    let fault : HasFault items place reason = subst (IsBlockError items) why refuses in
    subst (λ (z : Result (Vec ℕ Global) (InputError TooBig)). MeansInput {A = Contents} GivesBlock RefusesBlock MAX_PROOF_FILE z (Err (Refused (BadBlock place reason)))) (sym is)
    (bad_block place reason few (subst (λ (z : List ℕ). HasFault z place reason) same fault) refl)
